use Rattle.rows.proofs.Usual.{◌+◌, arith}
use Rattle.rows.proofs.Laws.Numbers.Added.{added_none, added_more}
use Rattle.rows.proofs.Laws.Pixels.Values.{value-read}
use Rattle.rows.proofs.search.sad_row.Goals as goal

pub loop-i-preserved : goal.loop-i-preserved
loop-i-preserved g c =
    let each = g.met.P.Pixel.each in
    let a = value-read each c.args.p.now (c.args.o + c.loop-i.i) _ (omega arith) c.index-p-o.is in
    let b = value-read each c.args.r.now (c.args.q + c.loop-i.i) _ (omega arith) c.index-r-q.is in
    added_more c.loop-i.invariant (omega arith) (rw (a, b) at c.abs_diff-s.ensures.0) (omega arith)

pub loop-i-init : goal.loop-i-init
loop-i-init g c = added_none _ _ _
