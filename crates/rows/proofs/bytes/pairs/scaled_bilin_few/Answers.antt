use Rattle.rows.proofs.Usual.{arith, upto_all}
use Rattle.rows.proofs.bytes.pairs.scaled_bilin_few.Goals as goal

pub returns : goal.returns
returns c = upto_all c.loop-i.invariant (omega arith)
