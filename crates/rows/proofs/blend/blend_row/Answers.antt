use Rattle.rows.proofs.Usual.{arith}
use Rattle.rows.proofs.Laws.Pixels.Values.{changed_here, changed_more, changed_all, value-read}
use Rattle.rows.proofs.blend.blend_row.Goals as goal

pub loop-i-preserved : goal.loop-i-preserved
loop-i-preserved g c =
    let each = g.met.P.Pixel.each in
    let d = changed_here each c.loop-i.invariant (omega arith) c.index-dst-i.is in
    let t = value-read each _ _ _ (omega arith) c.index-tmp-q.is in
    changed_more each c.loop-i.invariant (omega arith) (rw (d, t) at c.blend_px.ensures)

pub returns : goal.returns
returns g c = changed_all g.met.P.Pixel.each c.loop-i.invariant (omega arith)
