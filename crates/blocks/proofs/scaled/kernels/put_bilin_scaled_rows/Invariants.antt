use Rattle.blocks.proofs.Usual.{◌+◌, clip, Filled}
use Rattle.rows.specs.Bilinear.{R}
use Rattle.blocks.proofs.Laws.Scaled.Turns.{pair_at, TwoKept}
use Rattle.blocks.proofs.scaled.kernels.put_bilin_scaled_rows.Given as goal

abbrev pub invariant-loop-y : goal.invariant-loop-y
invariant-loop-y g l =
    let v = g.P.Pixel.values in
    Filled l.dst_stride l.w (λ i j. clip l.max (R (4 + l.p.bits) (pair_at (v l.src) l.p i j))) (v l.initial.dst) l.h l.y (v l.dst)
    × TwoKept (v l.src) l.p l.w l.n l.y l.rows
