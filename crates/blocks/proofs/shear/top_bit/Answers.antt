use Rattle.blocks.proofs.Usual.{arith}
use Rattle.blocks.proofs.Laws.Warp.Shears.{top-is}
use Rattle.blocks.proofs.shear.top_bit.Goals as goal

pub returns : goal.returns
returns c = omega (arith, top-is c.args.d c.requires c.ranges.d.fits)
