use Rattle.blocks.proofs.Usual.{◌*◌, ◌+◌, at, clip, low16, Filled}
use Rattle.rows.specs.Warp.{warped}
use Rattle.blocks.proofs.warp.warp_put_rows.Given as goal

abbrev pub invariant-loop-y : goal.invariant-loop-y
invariant-loop-y g l =
    let v = g.P.Pixel.values in
    Filled l.dst_stride 8 (λ i j. clip l.max (low16 (warped l.table l.by.m l.by.a l.by.b (7 + l.bits) j i (λ v. at l.mid (j + i * 15 + v)))))
    (v l.initial.dst) 8 l.y (v l.dst)
