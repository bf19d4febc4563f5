use Rattle.blocks.proofs.Usual.{List, ◌≡◌, ◌∙◌, sym, ℕ, length, area_of, window_of, lent_of, back}
use Rattle.blocks.specs.inner.Window.{asked}
use Rattle.blocks.proofs.Laws.Calls.Why.{refuses}
use Rattle.blocks.proofs.Laws.Window.Ready.{plane_of_lem, no_part_of, Accepted, accepted_small, accepted_ready, accepted_part}
use Rattle.blocks.proofs.window.find_window.Goals as goal
use Rattle.blocks.proofs.window.find_window.Goals.{In_default, After-area_of-a}

pub returns-in-Err : goal.returns-in-Err
unfolding window_of
returns-in-Err c plane l =
    let f = c.ranges in let n = c.number.ensures in
    no_part_of _ (n ∙ (rw (back f.x, back f.y) at (c.in-Err.ensures plane l))) (refuses c.in-Err.why n) c.no_part.ensures

-- the tests are met, of every plane of as many places
accepted : (c : In_default) (plane : List ℕ) → let a = c.args in length plane ≡ a.pl
    → Accepted (lent_of a.lent plane) (asked a.kind a.w a.h a.x a.y a.mode) a.sl
accepted c plane l = let f = c.ranges in record { is = sym (rw (back f.x, back f.y) at (c.in_default.ensures plane l)) }

pub area_of-a-requires : goal.area_of-a-requires
area_of-a-requires c =
    let (plane, long) = plane_of_lem c.args.pl in
    rw (back c.ranges.x, back c.ranges.y) (accepted_small (accepted c plane long))

area-is : (c : After-area_of-a) (plane : List ℕ) → let a = c.args in
    c.area_of-a.result ≡ area_of (lent_of a.lent plane) (asked a.kind a.w a.h a.x a.y a.mode)
area-is c plane = rw (back c.ranges.x, back c.ranges.y) at (c.area_of-a.ensures plane c.args.mode)

pub locate-requires : goal.locate-requires
locate-requires c =
    let at = goal.at.locate-requires c in
    let (plane, long) = plane_of_lem c.args.pl in
    let r = accepted_ready (accepted at.In_default plane long) (area-is c plane) in
    (r.area, r.plane.forth)

pub returns : goal.returns
returns c plane l =
    let at = goal.at.returns c in
    accepted_part (accepted at.In_default plane l) (area-is at.After-area_of-a plane) c.locate.ensures
