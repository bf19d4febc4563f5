use Rattle.rows.proofs.Usual.{◌+◌, ◌*◌, pos, length, at, minus16, low16, Upto}
use Rattle.rows.specs.Subpel.{tapped}
use Rattle.rows.proofs.subpel.mid_prep_by.Given as goal

-- the first i are done
abbrev pub invariant-loop-i : goal.invariant-loop-i
invariant-loop-i l = Upto (pos 0) (λ x. minus16 (low16 (tapped l.f l.by.r l.by.n (λ t. at l.mid (l.o + x + t * l.by.step)))) l.bias) (length l.initial.tmp) l.i l.tmp
