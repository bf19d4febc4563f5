use Rattle.rows.proofs.Usual.{arith, upto_all}
use Rattle.rows.proofs.Laws.Pixels.Values.{painted_more, value-read}
use Rattle.rows.proofs.copy.copy_each.Goals as goal

pub loop-i-preserved : goal.loop-i-preserved
loop-i-preserved g c =
    let each = g.met.P.Pixel.each in
    painted_more each c.loop-i.invariant (omega arith) (value-read each _ _ _ (omega arith) c.index-src-o.is)

pub returns : goal.returns
returns g c = upto_all c.loop-i.invariant (omega arith)
