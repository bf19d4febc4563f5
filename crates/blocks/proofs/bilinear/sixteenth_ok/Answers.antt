use Rattle.blocks.proofs.Usual.{back}
use Rattle.blocks.specs.Subpel.{sixteenth_ok}
use Rattle.blocks.proofs.bilinear.sixteenth_ok.Goals as goal

pub returns : goal.returns
unfolding sixteenth_ok
returns c = rw (back c.ranges.f)
