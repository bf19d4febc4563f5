use Rattle.rows.proofs.Usual.{◌+◌, ◌*◌, at}
use Rattle.rows.proofs.Laws.Filters.Near.{NearSum, highs}
use Rattle.rows.proofs.near.near_highs_i16.Given as goal

-- s is the sum of the first j taps
abbrev pub invariant-loop-j : goal.invariant-loop-j
invariant-loop-j l = NearSum l.f (highs (λ k. at l.src (l.o + k * l.step))) l.j l.s
