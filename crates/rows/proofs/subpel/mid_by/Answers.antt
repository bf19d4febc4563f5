use Rattle.rows.proofs.Usual.{arith, w32, SFits, upto_all, back}
use Rattle.rows.specs.Subpel.{tapped}
use Rattle.rows.proofs.Laws.Pixels.Values.{painted_more}
use Rattle.rows.proofs.subpel.mid_by.Goals as goal

pub loop-i-preserved : goal.loop-i-preserved
unfolding tapped
loop-i-preserved g c =
    let fr : SFits w32 c.rounded.result = omega arith in
    let ft : SFits w32 c.sum_i16.result = omega arith in
    painted_more g.met.P.Pixel.each c.loop-i.invariant (omega arith) (rw (c.clip.ensures, back fr, c.rounded.ensures, back ft, c.sum_i16.ensures.0))

pub returns : goal.returns
returns g c = upto_all c.loop-i.invariant (omega arith)
