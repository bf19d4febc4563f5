use Rattle.rows.proofs.Usual.{arith, upto_all}
use Rattle.rows.proofs.copy.prep_row.Goals as goal

pub returns : goal.returns
returns g c = upto_all c.loop-i.invariant (omega arith)
