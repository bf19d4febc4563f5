use Rattle.blocks.proofs.Usual.{Filled}
use Rattle.blocks.proofs.Laws.Scaled.Turns.{prep_eight, EightKept}
use Rattle.blocks.proofs.scaled.kernels.prep_8tap_scaled_rows.Given as goal

abbrev pub invariant-loop-y : goal.invariant-loop-y
invariant-loop-y g l =
    let src = g.P.Pixel.values l.src in
    Filled l.tmp_stride l.w (prep_eight l.bias src l.subpel l.p) l.initial.tmp l.h l.y l.tmp
    × EightKept src l.subpel l.p l.w l.n l.y l.last.rows l.last.order
