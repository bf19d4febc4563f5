use Rattle.blocks.proofs.Usual.{◌*◌, Filled}
use Rattle.rows.specs.Combine.{avg, both}
use Rattle.blocks.proofs.combine.avg_rows.Given as goal

abbrev pub invariant-loop-y : goal.invariant-loop-y
invariant-loop-y g l =
    Filled l.dst_stride l.w (λ i j. both (avg l.d.max l.d.bits l.d.bias) l.tmp1 l.tmp2 (j * l.w) i) (g.P.Pixel.values l.initial.dst) l.h l.y (g.P.Pixel.values l.dst)
