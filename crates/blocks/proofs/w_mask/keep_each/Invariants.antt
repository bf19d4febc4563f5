use Rattle.blocks.proofs.Usual.{Filled}
use Rattle.blocks.proofs.Laws.WMask.Weighed.{weigh}
use Rattle.blocks.proofs.w_mask.keep_each.Given as goal

abbrev pub invariant-loop-y : goal.invariant-loop-y
invariant-loop-y l = Filled l.mask_stride l.w (weigh l.depth l.bits l.tmp1 l.tmp2 l.w) l.initial.mask l.h l.y l.mask
