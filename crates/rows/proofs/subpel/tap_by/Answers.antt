use Rattle.rows.proofs.Usual.{arith, w32, SFits, upto_all, back}
use Rattle.rows.proofs.Laws.Pixels.Values.{painted_more}
use Rattle.rows.proofs.subpel.tap_by.Goals as goal

pub loop-i-preserved : goal.loop-i-preserved
loop-i-preserved g c =
    let fr : SFits w32 c.rounded_taps.result = omega arith in
    painted_more g.met.P.Pixel.each c.loop-i.invariant (omega arith) (rw (c.clip-v.ensures, back fr, c.rounded_taps.ensures))

pub returns : goal.returns
returns g c = upto_all c.loop-i.invariant (omega arith)
