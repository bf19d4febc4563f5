use Rattle.rows.proofs.Usual.{length, Upto}
use Rattle.rows.specs.Combine.{both}
use Rattle.rows.specs.WMask.{weight_of}
use Rattle.rows.proofs.w_mask.weight_row.Given as goal

abbrev pub invariant-loop-i : goal.invariant-loop-i
invariant-loop-i l = Upto 0 (both (weight_of l.depth l.bits) l.tmp1 l.tmp2 l.q) (length l.initial.m) l.i l.m
