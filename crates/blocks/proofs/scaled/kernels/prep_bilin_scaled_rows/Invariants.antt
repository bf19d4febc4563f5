use Rattle.blocks.proofs.Usual.{pos, low16, minus16, Filled}
use Rattle.rows.specs.Bilinear.{R}
use Rattle.blocks.proofs.Laws.Scaled.Turns.{pair_at, TwoKept}
use Rattle.blocks.proofs.scaled.kernels.prep_bilin_scaled_rows.Given as goal

abbrev pub invariant-loop-y : goal.invariant-loop-y
invariant-loop-y g l =
    let src = g.P.Pixel.values l.src in
    Filled l.tmp_stride l.w (λ i j. minus16 (low16 (R 4 (pair_at src l.p i j))) (pos l.bias)) l.initial.tmp l.h l.y l.tmp
    × TwoKept src l.p l.w l.n l.y l.rows
