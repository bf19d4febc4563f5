use Rattle.blocks.proofs.Usual.{arith}
use Rattle.rows.proofs.Laws.Blocks.Row.{upto_all}
use Rattle.blocks.proofs.scaled.by_rows.Goals as goal

pub returns : goal.returns
returns c = upto_all c.loop-k.invariant (omega arith)
