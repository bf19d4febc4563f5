use Rattle.rows.proofs.Usual.{◌+◌, ◌*◌, px}
use Rattle.rows.proofs.Laws.Filters.Near.{NearSum}
use Rattle.rows.proofs.bytes.sums.near_sum.Given as goal

-- s is the sum of the first j taps
abbrev pub invariant-loop-j : goal.invariant-loop-j
invariant-loop-j l = NearSum l.f (λ k. px l.src (l.o + k * l.step)) l.j l.s
