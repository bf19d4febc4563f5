use Rattle.blocks.proofs.Usual.{◌≡◌, length, Filled}
use Rattle.blocks.proofs.Laws.WMask.Weighed.{mixed}
use Rattle.blocks.proofs.w_mask.weighed_rows.Given as goal

abbrev pub invariant-loop-y : goal.invariant-loop-y
invariant-loop-y g l =
    let v = g.P.Pixel.values in
    Filled l.dst_stride l.w (mixed l.d.max l.d.bits l.d.bias l.depth l.tmp1 l.tmp2 l.w) (v l.initial.dst) l.h l.y (v l.dst) × (length l.m ≡ 64)
