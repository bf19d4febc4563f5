use Rattle.blocks.proofs.Usual.{back}
use Rattle.blocks.specs.Scaled.{start_ok}
use Rattle.blocks.proofs.scaled.start_ok.Goals as goal

pub returns : goal.returns
unfolding start_ok
returns c = rw (back c.ranges.v)
