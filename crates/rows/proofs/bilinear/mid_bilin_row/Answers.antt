use Rattle.rows.proofs.Usual.{arith, w32, SFits, upto_all, back}
use Rattle.rows.proofs.Laws.Pixels.Values.{painted_more}
use Rattle.rows.proofs.bilinear.mid_bilin_row.Goals as goal

pub loop-i-preserved : goal.loop-i-preserved
loop-i-preserved g c =
    let fb : SFits w32 c.between_i16.result = omega arith in
    painted_more g.met.P.Pixel.each c.loop-i.invariant (omega arith) (rw (back fb, c.between_i16.ensures.0) at c.bilin_px-v.ensures)

pub returns : goal.returns
returns g c = upto_all c.loop-i.invariant (omega arith)
