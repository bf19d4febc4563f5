use Rattle.blocks.proofs.Usual.{arith}
use Rattle.blocks.proofs.Laws.Loops.Groups.{carried_all}
use Rattle.blocks.proofs.groups.carry.Goals as goal

pub returns : goal.returns
returns c = carried_all c.loop-i.invariant (omega arith)
