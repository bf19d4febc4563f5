use Rattle.blocks.proofs.Usual.{back}
use Rattle.blocks.specs.words.Depth.{depth_ok}
use Rattle.blocks.proofs.words.depth.depth_ok.Goals as goal

pub returns : goal.returns
unfolding depth_ok
returns c = rw (c.up32-d.ensures, back c.ranges.depth)
