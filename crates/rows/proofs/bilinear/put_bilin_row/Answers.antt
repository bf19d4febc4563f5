use Rattle.rows.proofs.Usual.{◌+◌, arith, upto_all}
use Rattle.rows.proofs.Laws.Filters.Bilinear.{put-at}
use Rattle.rows.proofs.Laws.Pixels.Values.{painted_more}
use Rattle.rows.proofs.bilinear.put_bilin_row.Goals as goal

pub loop-i-preserved : goal.loop-i-preserved
loop-i-preserved g c =
    let a = c.args in
    let e = put-at a.max (g.P.Pixel.values a.src.now) (a.o + c.loop-i.i) a.step a.f a.n a.r a.k (omega arith) (omega arith) in
    painted_more g.met.P.Pixel.each c.loop-i.invariant (omega arith) (rw (c.both_halves-c.ensures, e) at c.put_between-v.ensures)

pub returns : goal.returns
returns g c = upto_all c.loop-i.invariant (omega arith)
