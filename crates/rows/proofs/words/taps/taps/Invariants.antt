use Rattle.rows.proofs.Usual.{◌+◌, ◌*◌, ◌≤◌, ◌^◌, pos, ◌*ℤ◌, ◌-ℤ◌, at, px, Summed}
use Rattle.rows.proofs.words.taps.taps.Given as goal

-- s is the sum of the first j taps
abbrev pub invariant-loop-j : goal.invariant-loop-j
invariant-loop-j l = (l.j ≤ 8) × Summed (λ k. at l.f k *ℤ (px l.src (l.o + k * l.step) -ℤ pos 32768)) (2 ^ 24) l.j l.s
