use Rattle.rows.proofs.Usual.{arith, SFits, w32, back}
use Rattle.rows.proofs.Laws.Blocks.Row.{upto_through}
use Rattle.rows.proofs.Laws.Pixels.Values.{painted_more, value-stored}
use Rattle.rows.proofs.subpel.tap_eight.Goals as goal

pub loop-i-preserved : goal.loop-i-preserved
loop-i-preserved g c =
    let fr : SFits w32 c.rounded_taps.result = omega arith in
    painted_more g.met.P.Pixel.each c.loop-i.invariant (omega arith) (rw (c.clip.ensures, back fr, c.rounded_taps.ensures))

pub loop-j-preserved : goal.loop-j-preserved
loop-j-preserved g c =
    let each = g.met.P.Pixel.each in
    painted_more each c.loop-j.invariant (omega arith) (value-stored each _ _ _ (omega arith))

pub returns : goal.returns
returns g c = upto_through c.loop-i.invariant (omega arith) c.loop-j.invariant (omega arith)
