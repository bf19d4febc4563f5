use Rattle.blocks.proofs.Usual.{◌+◌, ◌-◌, ◌%◌, pos, at}
use Rattle.rows.proofs.Laws.Blocks.Row.{Upto}
use Rattle.blocks.proofs.scaled.by_rows.Given as goal

abbrev pub invariant-loop-k : goal.invariant-loop-k
invariant-loop-k l = Upto (pos 0) (λ t. at l.f ((t + 8 - l.first) % 8)) 8 l.k l.g
