use Rattle.blocks.proofs.Usual.{Filled}
use Rattle.rows.specs.Copy.{prep}
use Rattle.blocks.specs.inner.Source.{pixel_in}
use Rattle.blocks.proofs.copy.prep_rows.Given as goal

abbrev pub invariant-loop-y : goal.invariant-loop-y
invariant-loop-y g l = Filled l.tmp_stride l.w (λ i j. prep l.d.bits l.d.bias (pixel_in (g.P.Pixel.values l.src) l.s i j)) l.initial.tmp l.h l.y l.tmp
