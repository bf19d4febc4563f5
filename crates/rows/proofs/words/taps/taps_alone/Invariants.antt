use Rattle.rows.proofs.Usual.{◌≤◌, at, Summed}
use Rattle.rows.proofs.words.taps.taps_alone.Given as goal

abbrev pub invariant-loop-j : goal.invariant-loop-j
invariant-loop-j l = (l.j ≤ 8) × Summed (at l.f) 129 l.j l.s
