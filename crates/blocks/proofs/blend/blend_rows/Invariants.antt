use Rattle.blocks.proofs.Usual.{pixel, Filled}
use Rattle.rows.specs.Combine.{blend}
use Rattle.blocks.proofs.blend.blend_rows.Given as goal

abbrev pub invariant-loop-y : goal.invariant-loop-y
invariant-loop-y g l =
    let v = g.P.Pixel.values in
    Filled l.dst_stride l.w (λ i j. blend (pixel l.mask l.w i j) (pixel (v l.initial.dst) l.dst_stride i j) (pixel (v l.tmp) l.w i j)) (v l.initial.dst) l.h l.y (v l.dst)
