use Rattle.rows.proofs.Usual.{arith}
use Rattle.rows.proofs.Laws.Blocks.Row.{upto_through}
use Rattle.rows.proofs.Laws.Pixels.Values.{painted_more, value-read, value-stored}
use Rattle.rows.proofs.copy.copy_whole.Goals as goal

pub loop-i-preserved : goal.loop-i-preserved
loop-i-preserved g c =
    let each = g.met.P.Pixel.each in
    painted_more each c.loop-i.invariant (omega arith) (value-read each _ _ _ (omega arith) c.index-src-o.is)

pub loop-j-preserved : goal.loop-j-preserved
loop-j-preserved g c =
    let each = g.met.P.Pixel.each in
    painted_more each c.loop-j.invariant (omega arith) (value-stored each _ _ _ (omega arith))

pub returns : goal.returns
returns g c = upto_through c.loop-i.invariant (omega arith) c.loop-j.invariant (omega arith)
