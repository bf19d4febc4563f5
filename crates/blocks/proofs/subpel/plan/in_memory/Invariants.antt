use Rattle.blocks.proofs.Usual.{◌-◌, pos, at}
use Rattle.rows.proofs.Laws.Blocks.Row.{Upto}
use Rattle.blocks.proofs.subpel.plan.in_memory.Given as goal

abbrev pub invariant-loop-t : goal.invariant-loop-t
invariant-loop-t l = Upto (pos 0) (λ k. at l.f (7 - k)) 8 l.t l.r
