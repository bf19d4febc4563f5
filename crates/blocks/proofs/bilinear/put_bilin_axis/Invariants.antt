use Rattle.blocks.proofs.Usual.{◌+◌, ◌^◌, pos, ◌+ℤ◌, shr_z, clip, px, Filled}
use Rattle.rows.specs.Bilinear.{R}
use Rattle.rows.specs.inner.Bilinear.{bilin_at}
use Rattle.blocks.specs.inner.Source.{row_first}
use Rattle.blocks.proofs.bilinear.put_bilin_axis.Given as goal

abbrev pub invariant-loop-y : goal.invariant-loop-y
invariant-loop-y g l =
    let v = g.P.Pixel.values in
    Filled l.ds l.w (λ i j. clip l.max (shr_z (R l.by.n (bilin_at (px (v l.src)) (row_first l.s j + i) l.by.step l.by.f) +ℤ pos l.last.r) (2 ^ l.last.k)))
    (v l.initial.dst) l.h l.y (v l.dst)
