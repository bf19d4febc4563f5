use Rattle.blocks.proofs.Laws.Loops.Groups.{Carrying}
use Rattle.blocks.proofs.groups.carry.Given as goal

abbrev pub invariant-loop-i : goal.invariant-loop-i
invariant-loop-i l = Carrying l.n l.initial.mid l.i l.mid
