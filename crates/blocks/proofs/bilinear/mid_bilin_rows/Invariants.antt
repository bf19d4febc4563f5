use Rattle.blocks.proofs.Usual.{◌*◌, ◌+◌, at, clip, Filled}
use Rattle.rows.specs.Bilinear.{R}
use Rattle.rows.specs.inner.Bilinear.{bilin_at}
use Rattle.blocks.proofs.bilinear.mid_bilin_rows.Given as goal

abbrev pub invariant-loop-y : goal.invariant-loop-y
invariant-loop-y g l =
    let v = g.P.Pixel.values in
    Filled l.ds l.w (λ i j. clip l.max (R l.n (bilin_at (at l.mid) (j * 64 + i) 64 l.f))) (v l.initial.dst) l.h l.y (v l.dst)
