use Rattle.blocks.proofs.Usual.{◌≡◌, ◌∙◌, sym, rules, length, lowest, back}
use Rattle.rows.proofs.Laws.Pixels.Values.{values-length}
use Rattle.blocks.specs.Refuse.{told, number_of, reason_of}
use Rattle.blocks.specs.Edge.{edge_tests}
use Rattle.blocks.proofs.Laws.Calls.Refuse.{made, stays}
use Rattle.blocks.proofs.Laws.Loops.Stands.{edges_down}
use Rattle.blocks.proofs.Laws.Edge.Ready.{edge_ready}
use Rattle.blocks.proofs.edge.hv_emu_edge.Goals as goal
use Rattle.blocks.proofs.edge.hv_emu_edge.Goals.{After-check_edge}

number : (g : _) (c : After-check_edge g) → let a = c.args in let v = g.P.Pixel.values in
    told c.check_edge.result
    ≡ lowest (edge_tests a.bw a.bh a.iw a.ih a.x a.y (length (v a.dst.now)) a.dst_stride (length (v a.plane.now)) a.plane_stride)
number g c =
    let a = c.args in let each = g.met.P.Pixel.each in
    let n = rw (back c.ranges.x, back c.ranges.y) at c.check_edge.ensures in rw (values-length each a.dst.now, values-length each a.plane.now) n

pub edge_rows-requires : goal.edge_rows-requires
edge_rows-requires g c = rw c.top_down-s.ensures (edge_ready (sym c.in_ok-check_edge.ensures))

pub returns : goal.returns
returns g c =
    let new = rw (c.top_down-s.ensures, edges_down _ _ _ _ _ _) at c.edge_rows.ensures in (
      rw c.in_ok-check_edge.was at (number g (goal.at.returns g c).After-check_edge),
      rw (back c.ranges.x, back c.ranges.y) at new ∙ made _ _,
    )

pub returns-in_err-check_edge : goal.returns-in_err-check_edge
returns-in_err-check_edge g c =
    let n = rw c.in_err-check_edge.was at (number g (goal.at.returns-in_err-check_edge g c).After-check_edge) in
    let r : told c.from_residual.result ≡ number_of (reason_of c.in_err-check_edge.field-0.0) = search rules in
    (r ∙ n, stays _ c.in_err-check_edge.field-0.0 _ _ r)
