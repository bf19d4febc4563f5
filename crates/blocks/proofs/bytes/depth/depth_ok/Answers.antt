use Rattle.blocks.proofs.Usual.{back}
use Rattle.blocks.specs.bytes.Depth.{depth_ok}
use Rattle.blocks.proofs.bytes.depth.depth_ok.Goals as goal

pub returns : goal.returns
unfolding depth_ok
returns c = rw (c.up32.ensures, back c.ranges.depth)
