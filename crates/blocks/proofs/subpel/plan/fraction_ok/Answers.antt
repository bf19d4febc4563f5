use Rattle.blocks.proofs.Usual.{back}
use Rattle.blocks.specs.Subpel.{sixteenth_ok, fraction_ok}
use Rattle.blocks.proofs.subpel.plan.fraction_ok.Goals as goal

pub returns : goal.returns
unfolding fraction_ok sixteenth_ok
returns c = rw (back c.ranges.filter_type, back c.ranges.f)
