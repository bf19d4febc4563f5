use Rattle.rows.proofs.Usual.{◌+◌, ◌*◌, pos, at, minus16, low16, Upto}
use Rattle.rows.specs.Warp.{warped}
use Rattle.rows.proofs.warp.warp_prep_row.Given as goal

abbrev pub invariant-loop-c : goal.invariant-loop-c
invariant-loop-c l = Upto (pos 0) (λ x. minus16 (low16 (warped l.table l.by.m l.by.a l.by.b l.n l.r x (λ t. at l.mid (l.o + x * 15 + t)))) l.bias) 8 l.c l.tmp
