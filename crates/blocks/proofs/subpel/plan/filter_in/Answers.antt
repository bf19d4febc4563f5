use Rattle.blocks.proofs.Usual.{back}
use Rattle.blocks.specs.Subpel.{filter_in}
use Rattle.blocks.proofs.subpel.plan.filter_in.Goals as goal

pub returns : goal.returns
unfolding filter_in
returns c = rw (c.up32.ensures, back c.ranges.filter_type, back c.ranges.f)
