use Rattle.rows.proofs.Usual.{arith, upto_all, back}
use Rattle.rows.proofs.subpel.mid_prep_by.Goals as goal

pub returns : goal.returns
returns c = rw (← back c.ranges.bias) (upto_all c.loop-i.invariant (omega arith))
