use Rattle.rows.proofs.Usual.{nat_abs, at}
use Rattle.rows.proofs.Laws.Numbers.Added.{Added}
use Rattle.rows.proofs.near.is_near.Given as goal

abbrev pub invariant-loop-j : goal.invariant-loop-j
invariant-loop-j l = Added (λ t. nat_abs (at l.f t)) 128 8 l.j l.s
