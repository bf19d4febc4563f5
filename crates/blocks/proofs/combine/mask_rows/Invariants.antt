use Rattle.blocks.proofs.Usual.{◌*◌, pixel, Filled}
use Rattle.rows.specs.Combine.{masked, both}
use Rattle.blocks.proofs.combine.mask_rows.Given as goal

abbrev pub invariant-loop-y : goal.invariant-loop-y
invariant-loop-y g l =
    Filled l.dst_stride l.w (λ i j. both (masked l.d.max l.d.bits l.d.bias (pixel l.mask l.mask_stride i j)) l.tmp1 l.tmp2 (j * l.w) i)
    (g.P.Pixel.values l.initial.dst) l.h l.y (g.P.Pixel.values l.dst)
