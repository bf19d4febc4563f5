use Rattle.blocks.proofs.Usual.{◌≡◌, row_at, lent_of, back}
use Rattle.rows.proofs.Laws.Pixels.Values.{values-length}
use Rattle.blocks.proofs.Laws.Window.Rows.{row_in_plane}
use Rattle.blocks.proofs.plane_row.row_part.Goals as goal
use Rattle.blocks.proofs.plane_row.row_part.Goals.{After-row_at-part}

answer : (g : _) (c : After-row_at-part g) → let a = c.args in
    c.row_at-part.result ≡ row_at (lent_of a.lent (g.P.Pixel.values a.plane.now)) a.row
answer g c =
    let plane = c.args.plane.now in
    rw (back c.ranges.row) at (c.row_at-part.ensures (g.P.Pixel.values plane) (values-length g.met.P.Pixel.each plane))

pub pick-requires : goal.pick-requires
pick-requires g c =
    rw (answer g (goal.at.pick-requires g c).After-row_at-part, ← values-length g.met.P.Pixel.each c.args.plane.now) (row_in_plane _ _ _)
