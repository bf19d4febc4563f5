use Rattle.rows.proofs.Usual.{arith, back}
use Rattle.rows.proofs.Laws.Blocks.Row.{upto_through}
use Rattle.rows.proofs.subpel.tap_eight_mid.Goals as goal

pub returns : goal.returns
returns g c = rw (← back c.ranges.bias) (upto_through c.loop-i.invariant (omega arith) c.loop-j.invariant (omega arith))
