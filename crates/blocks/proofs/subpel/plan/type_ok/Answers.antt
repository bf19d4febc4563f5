use Rattle.blocks.proofs.Usual.{back}
use Rattle.blocks.specs.Subpel.{type_ok}
use Rattle.blocks.proofs.subpel.plan.type_ok.Goals as goal

pub returns : goal.returns
unfolding type_ok
returns c = rw (back c.ranges.filter_type)
