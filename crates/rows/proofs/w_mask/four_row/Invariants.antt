use Rattle.rows.proofs.Usual.{◌+◌, ◌*◌, length, get_or, Upto}
use Rattle.rows.specs.WMask.{four_of}
use Rattle.rows.proofs.w_mask.four_row.Given as goal

abbrev pub invariant-loop-i : goal.invariant-loop-i
invariant-loop-i l = Upto 0 (λ k. four_of l.sign (get_or l.m (2 * k) 0 + get_or l.m (2 * k + 1) 0 + get_or l.n (2 * k) 0 + get_or l.n (2 * k + 1) 0)) (length l.initial.mask) l.i l.mask
