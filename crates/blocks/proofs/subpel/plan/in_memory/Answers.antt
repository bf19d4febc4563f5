use Rattle.blocks.proofs.Usual.{◌∙◌, arith}
use Rattle.rows.proofs.Laws.Blocks.Row.{upto_all}
use Rattle.blocks.proofs.Laws.Subpel.Turned.{memory_same, memory_turned}
use Rattle.blocks.proofs.subpel.plan.in_memory.Goals as goal

pub returns : goal.returns
returns c = upto_all c.loop-t.invariant (omega arith) ∙ memory_turned _ _ (omega (arith, c.if-back-eq0.false))

pub returns-then-back-eq0 : goal.returns-then-back-eq0
returns-then-back-eq0 c = memory_same _ c.if-back-eq0.true
