use Rattle.rows.proofs.Usual.{arith, upto_all, back}
use Rattle.rows.proofs.bilinear.prep_bilin_row.Goals as goal

pub returns : goal.returns
returns g c = rw (← back c.ranges.bias) (upto_all c.loop-i.invariant (omega arith))
