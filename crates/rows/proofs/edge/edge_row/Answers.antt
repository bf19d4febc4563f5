use Rattle.rows.proofs.Usual.{ℕ, ◌-◌, ◌+◌, ◌∙◌, sym, arith, length, w64, back, backn, upto_all}
use Rattle.rows.proofs.Laws.Pixels.Edge.{Parts, parts, edge_at, is_at}
use Rattle.rows.proofs.Laws.Pixels.Values.{painted_first, painted_lent, value-read, values-length}
use Rattle.rows.proofs.edge.edge_row.Goals as goal
use Rattle.rows.proofs.edge.edge_row.Goals.{After-left_of-s}

know : (g : _) (c : After-left_of-s g)
    → Parts c.args.iw c.args.x (length c.args.dst.now) c.left_of-a.result c.left_of-e.result c.left_of-s.result
know g c =
    parts (omega arith)
    (rw (back c.ranges.x) at c.left_of-a.ensures)
    (rw (back c.ranges.x, backn w64 c.args.iw (omega arith)) at c.left_of-e.ensures)
    (rw (back c.ranges.x) at c.left_of-s.ensures)

pub returns : goal.returns
returns g c =
    let a = c.args in
    let src = g.P.Pixel.values a.src.now in
    let each = g.met.P.Pixel.each in
    let p = know g (goal.at.returns g c).After-left_of-s in
    let f : ℕ → ℕ = edge_at src a.o a.iw a.x in
    let left = value-read each a.src.now a.o _ (omega arith) c.index-src-o.is in
    let right = value-read each a.src.now (a.o + a.iw - 1) _ (omega arith) c.index-src-o-2.is in
    let first = painted_first each {f = f} a.dst.now c.left_of-a.result (omega (arith, p)) c.fill_row.ensures
    (λ j h. left ∙ is_at src a.o a.iw a.x a.o j (p.left j h) (omega arith)) in
    let middle = painted_lent each {f = f} _ c.left_of-a.result c.left_of-e.result first (omega arith) p.ordered p.within c.copy_row.ensures
    (λ j h. is_at src a.o a.iw a.x (a.o + c.left_of-s.result + j) (c.left_of-a.result + j) (p.inside j h) (omega arith)) in
    let long = sym (values-length each _) ∙ middle.len in
    let last = painted_lent each {f = f} _ c.left_of-e.result _ middle (omega arith) (omega (arith, p, long)) (omega (arith, long)) c.fill_row-2.ensures
    (λ j h. right ∙ is_at src a.o a.iw a.x (a.o + a.iw - 1) (c.left_of-e.result + j) (p.right j (omega (arith, long))) (omega (arith, p))) in
    upto_all last (omega (arith, long))
