use Rattle.blocks.proofs.Usual.{◌≡◌, length, window_of, lent_of, back}
use Rattle.rows.proofs.Laws.Pixels.Values.{values-length}
use Rattle.blocks.specs.inner.Window.{asked}
use Rattle.blocks.proofs.Laws.Window.Holds.{window_in}
use Rattle.blocks.proofs.window.window_part.Goals as goal
use Rattle.blocks.proofs.window.window_part.Goals.{After-find_window-part}

answer : (g : _) (c : After-find_window-part g) → let a = c.args in
    c.find_window-part.result
    ≡ window_of (lent_of a.lent (g.P.Pixel.values a.plane.now)) (asked a.kind a.w a.h a.x a.y a.mode) (length a.scratch.now)
answer g c =
    let plane = c.args.plane.now in
    rw (back c.ranges.x, back c.ranges.y) at (c.find_window-part.ensures (g.P.Pixel.values plane) (values-length g.met.P.Pixel.each plane))

pub pick-requires : goal.pick-requires
pick-requires g c =
    let each = g.met.P.Pixel.each in let a = c.args in
    rw (answer g c, ← values-length each a.plane.now, ← values-length each a.scratch.now) (window_in _ _ _)
