use Rattle.blocks.proofs.Usual.{true, ◌≡◌, ◌/◌, length, Filled}
use Rattle.rows.specs.WMask.{mask_at}
use Rattle.blocks.proofs.Laws.WMask.Weighed.{weigh}
use Rattle.blocks.proofs.w_mask.keep_fours.Given as goal

abbrev pub invariant-loop-y : goal.invariant-loop-y
invariant-loop-y l =
    Filled l.mask_stride (l.w / 2) (mask_at l.sign true true (weigh l.depth l.bits l.tmp1 l.tmp2 l.w)) l.initial.mask (l.h / 2) l.y l.mask
    × (length l.m ≡ 64) × (length l.n ≡ 64)
