use Rattle.rows.proofs.Usual.{arith, upto_all}
use Rattle.rows.proofs.w_mask.pair_row.Goals as goal

pub returns : goal.returns
returns c = upto_all c.loop-i.invariant (omega arith)
