use Rattle.blocks.proofs.Usual.{Filled}
use Rattle.blocks.specs.inner.Source.{pixel_in}
use Rattle.blocks.proofs.warp.upright.Given as goal

abbrev pub invariant-loop-y : goal.invariant-loop-y
invariant-loop-y g l = Filled 15 15 (pixel_in (g.P.Pixel.values l.src) l.s) l.initial.rows 15 l.y l.rows
