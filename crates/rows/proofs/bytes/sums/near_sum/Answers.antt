use Rattle.rows.proofs.Usual.{refl, ◌*◌, ◌≤◌, arith, w16, w8, back, fit, steps-le}
use Rattle.rows.proofs.Laws.Filters.Near.{near_none, near_room, near_more, near_all}
use Rattle.rows.proofs.bytes.sums.near_sum.Goals as goal
use Rattle.rows.proofs.bytes.sums.near_sum.Goals.{In-loop-j}

-- place j is within src
place : (c : In-loop-j) → c.loop-j.j * c.args.step ≤ 7 * c.args.step
place c = steps-le c.loop-j.j c.args.step c.loop-j-test.true

pub loop-j-preserved : goal.loop-j-preserved
loop-j-preserved c =
    rw (back (fit w16 c.near_tap_u8-s.type_inv)) (near_more c.loop-j.invariant (omega arith) c.requires.1 (fit w8 c.near_tap_u8-arg-1.given) refl c.near_tap_u8-s.ensures)

pub loop-j-init : goal.loop-j-init
loop-j-init c = near_none _ _

pub near_tap_u8-s-requires : goal.near_tap_u8-s-requires
near_tap_u8-s-requires c = near_room c.loop-j.invariant (omega arith) c.requires.1 (fit w8 c.near_tap_u8-arg-1.given)

pub returns : goal.returns
returns c = near_all c.loop-j.invariant (omega arith)
