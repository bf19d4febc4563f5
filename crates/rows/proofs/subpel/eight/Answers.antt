use Rattle.rows.proofs.Usual.{arith, upto_all}
use Rattle.rows.specs.Subpel.{filter}
use Rattle.rows.proofs.subpel.eight.Goals as goal

pub returns : goal.returns
unfolding filter
returns c = upto_all c.loop-t.invariant (omega arith)
