use Rattle.blocks.proofs.Usual.{◌≡◌, ◌∙◌, sym, length, area_of, window_of, lent_of, back}
use Rattle.rows.proofs.Laws.Pixels.Values.{values-length}
use Rattle.blocks.specs.inner.Window.{asked}
use Rattle.blocks.proofs.Laws.Calls.Why.{refuses}
use Rattle.blocks.proofs.Laws.Window.Ready.{no_part_of, scratch_kept, Accepted, accepted_small, accepted_ready, accepted_part, accepted_scratch}
use Rattle.blocks.proofs.window.window.Goals as goal
use Rattle.blocks.proofs.window.window.Goals.{In_default, After-area_of-a}

pub returns-in-Err : goal.returns-in-Err
unfolding window_of
returns-in-Err g c =
    let f = c.ranges in let plane = c.args.plane.now in let n = c.number.ensures in
    let other = refuses c.in-Err.why n in
    let e = rw (back f.x, back f.y) at (c.in-Err.ensures (g.P.Pixel.values plane) (values-length g.met.P.Pixel.each plane)) in
    (no_part_of _ (n ∙ e) other c.no_part.ensures, rw c.no_part.ensures (scratch_kept _ _ _ _ other))

-- the tests are met
accepted : (g : _) (c : In_default g) → let a = c.args in
    Accepted (lent_of a.lent (g.P.Pixel.values a.plane.now)) (asked a.kind a.w a.h a.x a.y a.mode) (length a.scratch.now)
accepted g c =
    let f = c.ranges in let plane = c.args.plane.now in
    record { is = sym (rw (back f.x, back f.y) at (c.in_default.ensures (g.P.Pixel.values plane) (values-length g.met.P.Pixel.each plane))) }

pub area_of-a-requires : goal.area_of-a-requires
area_of-a-requires g c = rw (back c.ranges.x, back c.ranges.y) (accepted_small (accepted g c))

area-is : (g : _) (c : After-area_of-a g) → let a = c.args in
    c.area_of-a.result ≡ area_of (lent_of a.lent (g.P.Pixel.values a.plane.now)) (asked a.kind a.w a.h a.x a.y a.mode)
area-is g c = rw (back c.ranges.x, back c.ranges.y) at (c.area_of-a.ensures (g.P.Pixel.values c.args.plane.now) c.args.mode)

pub fetch-requires : goal.fetch-requires
fetch-requires g c =
    let at = goal.at.fetch-requires g c in
    let ready = accepted_ready (accepted g at.In_default) (area-is g at.After-area_of-a) in
    rw (values-length g.met.P.Pixel.each c.args.plane.now) at ready

pub returns : goal.returns
returns g c =
    let at = goal.at.returns g c in
    let ok = accepted g at.In_default in
    let is = area-is g at.After-area_of-a in
    let e = c.fetch.ensures in
    (accepted_part ok is e.0, accepted_scratch ok is _ e.0 e.1)
