use Rattle.blocks.proofs.Usual.{pixel, Filled}
use Rattle.rows.specs.Combine.{morph}
use Rattle.blocks.proofs.blend.morph_rows.Given as goal

abbrev pub invariant-loop-y : goal.invariant-loop-y
invariant-loop-y g l =
    let v = g.P.Pixel.values in
    Filled l.dst_stride l.w (λ i j. morph l.max l.alpha l.beta (pixel (v l.initial.dst) l.dst_stride i j)) (v l.initial.dst) l.h l.y (v l.dst)
