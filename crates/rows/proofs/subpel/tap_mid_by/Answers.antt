use Rattle.rows.proofs.Usual.{arith, upto_all, back}
use Rattle.rows.proofs.Laws.Filters.Loop.{upto_kept}
use Rattle.rows.proofs.subpel.tap_mid_by.Goals as goal

pub loop-i-preserved : goal.loop-i-preserved
loop-i-preserved g c = upto_kept c.loop-i.invariant (omega arith) (omega arith) c.tap_mid_px-v.ensures

pub returns : goal.returns
returns g c = rw (← back c.ranges.bias) (upto_all c.loop-i.invariant (omega arith))
