use Rattle.rows.proofs.Usual.{arith, back}
use Rattle.rows.proofs.Laws.Pixels.Values.{changed_here, changed_more, changed_all}
use Rattle.rows.proofs.blend.morph_row.Goals as goal

pub returns : goal.returns
returns g c =
    rw (← back c.ranges.alpha, ← back c.ranges.beta) (changed_all g.met.P.Pixel.each c.loop-i.invariant (omega arith))

pub loop-i-preserved : goal.loop-i-preserved
loop-i-preserved g c =
    let each = g.met.P.Pixel.each in
    let d = changed_here each c.loop-i.invariant (omega arith) c.index-dst-i.is in
    changed_more each c.loop-i.invariant (omega arith) (rw d at c.morph_px.ensures)
