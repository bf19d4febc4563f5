use Rattle.rows.proofs.Usual.{◌+◌, ◌*◌, ◌≤◌, ◌^◌, ◌*ℤ◌, at, Summed}
use Rattle.rows.proofs.subpel.taps_i16.Given as goal

-- s is the sum of the first j taps
abbrev pub invariant-loop-j : goal.invariant-loop-j
invariant-loop-j l = (l.j ≤ 8) × Summed (λ k. at l.f k *ℤ at l.src (l.o + k * l.step)) (2 ^ 24) l.j l.s
