use Rattle.blocks.proofs.Usual.{back}
use Rattle.blocks.specs.Scaled.{step_ok}
use Rattle.blocks.proofs.scaled.step_ok.Goals as goal

pub returns : goal.returns
unfolding step_ok
returns c = rw (back c.ranges.v)
