use Rattle.blocks.proofs.Usual.{Filled}
use Rattle.blocks.proofs.Laws.Scaled.Turns.{put_eight, EightKept}
use Rattle.blocks.proofs.scaled.kernels.put_8tap_scaled_rows.Given as goal

abbrev pub invariant-loop-y : goal.invariant-loop-y
invariant-loop-y g l =
    let v = g.P.Pixel.values in
    Filled l.dst_stride l.w (put_eight l.max (v l.src) l.subpel l.p) (v l.initial.dst) l.h l.y (v l.dst)
    × EightKept (v l.src) l.subpel l.p l.w l.n l.y l.last.rows l.last.order
