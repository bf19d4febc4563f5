use Rattle.rows.proofs.Usual.{refl, arith, upto_all}
use Rattle.rows.proofs.Laws.Pixels.Values.{painted_more}
use Rattle.rows.proofs.edge.fill_row.Goals as goal

pub loop-i-preserved : goal.loop-i-preserved
loop-i-preserved g c = painted_more g.met.P.Pixel.each c.loop-i.invariant (omega arith) refl

pub returns : goal.returns
returns g c = upto_all c.loop-i.invariant (omega arith)
