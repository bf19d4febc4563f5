use Rattle.blocks.proofs.Usual.{arith, length, Turn}
use Rattle.blocks.specs.inner.Source.{edge_in}
use Rattle.blocks.proofs.Laws.Loops.Stands.{StoodRow}
use Rattle.blocks.proofs.Laws.Loops.Shown.{shown_none, shown_more, shown_turn}
use Rattle.blocks.proofs.Laws.Edge.Ready.{turn, row_is}
use Rattle.blocks.proofs.Laws.Calls.Told.{left_passed, top_passed}
use Rattle.blocks.proofs.edge.edge_rows.Goals as goal
use Rattle.blocks.proofs.edge.edge_rows.Goals.{After-nearest_row-k}

-- in a turn, row j is within dst and the row that is nearest within the plane
row : (g : _) (c : After-nearest_row-k g) → let s = c.args in
    Turn s.dst_stride s.a.ww c.loop-j.j c.loop-j.dst
    × StoodRow (length s.plane.now) s.s s.a.iw c.nearest_row-k.result
row g c =
    let p = c.requires in let lt = c.loop-j-test.true in let s = c.args in
    let f = edge_in (g.P.Pixel.values s.plane.now) s.s s.a.iw s.a.ih s.a.left s.a.top in
    (shown_turn g.met.P.Pixel.each {f = f} c.loop-j.invariant p.dst lt, (turn p lt c.nearest_row-k.ensures.1).1)

pub edge_row-requires : goal.edge_row-requires
edge_row-requires g c =
    let p = c.requires in
    let r = row g (goal.at.edge_row-requires g c).After-nearest_row-k in
    (p.area.iw1, p.area.iw14, omega (arith, r.1, c.row_first-o.ensures), omega (arith, r.0, p.area), rw (left_passed c.args.a c.type_inv.a) (omega (arith, p.area.left)))

pub loop-j-preserved : goal.loop-j-preserved
loop-j-preserved g c =
    let p = c.requires in
    let a = c.args.a in
    let x = left_passed a c.type_inv.a in
    let y = top_passed a c.type_inv.a in
    shown_more g.met.P.Pixel.each _ c.loop-j.invariant p.area.ww1 p.dst c.loop-j-test.true
    (row_is _ _ _ _ _ _ _ _ (rw y at c.nearest_row-k.ensures.0) c.row_first-o.ensures (rw x at c.edge_row.ensures))

pub loop-j-init : goal.loop-j-init
loop-j-init g c = shown_none g.met.P.Pixel.each _ _ (omega (arith, c.requires.dst))
