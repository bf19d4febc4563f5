use Rattle.blocks.proofs.Usual.{true, false, ◌≡◌, ◌/◌, length, Filled}
use Rattle.rows.specs.WMask.{mask_at}
use Rattle.blocks.proofs.Laws.WMask.Weighed.{weigh}
use Rattle.blocks.proofs.w_mask.keep_pairs.Given as goal

abbrev pub invariant-loop-y : goal.invariant-loop-y
invariant-loop-y l =
    Filled l.mask_stride (l.w / 2) (mask_at l.sign true false (weigh l.depth l.bits l.tmp1 l.tmp2 l.w)) l.initial.mask l.h l.y l.mask × (length l.m ≡ 64)
