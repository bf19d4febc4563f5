use Rattle.rows.proofs.Usual.{◌+◌, ◌*◌, pos, at, Upto}
use Rattle.rows.proofs.subpel.eight.Given as goal

-- the first t taps are copied
abbrev pub invariant-loop-t : goal.invariant-loop-t
invariant-loop-t l = Upto (pos 0) (λ k. at l.table (8 * l.n + k)) 8 l.t l.f
