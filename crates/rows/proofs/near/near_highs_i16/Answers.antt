use Rattle.rows.proofs.Usual.{ap, ◌+◌, ◌*◌, ◌≤◌, arith, ℤ, shr_z, w16, w8, at, back, fit, steps-le}
use Rattle.rows.proofs.Laws.Filters.Near.{near_none, near_room, near_more, near_all}
use Rattle.rows.proofs.near.near_highs_i16.Goals as goal
use Rattle.rows.proofs.near.near_highs_i16.Goals.{In-loop-j}

-- place j is within src
place : (c : In-loop-j) → c.loop-j.j * c.args.step ≤ 7 * c.args.step
place c = steps-le c.loop-j.j c.args.step c.loop-j-test.true

pub loop-j-preserved : goal.loop-j-preserved
loop-j-preserved c =
    let a = c.args in
    let e = ap (λ (z : ℤ). shr_z z 256) (back (fit w16 {z = at a.src.now (a.o + c.loop-j.j * a.step)} c.near_high_i16-arg-in-loop-j-1.given)) in
    rw (back (fit w16 c.near_high_i16-s.type_inv)) (near_more c.loop-j.invariant (omega arith) c.requires.1 (fit w8 c.near_high_i16-arg-1.given) e c.near_high_i16-s.ensures)

pub loop-j-init : goal.loop-j-init
loop-j-init c = near_none _ _

pub near_high_i16-s-requires : goal.near_high_i16-s-requires
near_high_i16-s-requires c = near_room c.loop-j.invariant (omega arith) c.requires.1 (fit w8 c.near_high_i16-arg-1.given)

pub returns : goal.returns
returns c = near_all c.loop-j.invariant (omega arith)
