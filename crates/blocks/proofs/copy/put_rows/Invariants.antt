use Rattle.blocks.proofs.Usual.{Filled}
use Rattle.rows.specs.Copy.{put}
use Rattle.blocks.specs.inner.Source.{pixel_in}
use Rattle.blocks.proofs.copy.put_rows.Given as goal

abbrev pub invariant-loop-y : goal.invariant-loop-y
invariant-loop-y g l =
    Filled l.dst_stride l.w (λ i j. put (pixel_in (g.P.Pixel.values l.src) l.s i j)) (g.P.Pixel.values l.initial.dst) l.h l.y (g.P.Pixel.values l.dst)
