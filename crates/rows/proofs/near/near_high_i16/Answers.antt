use Rattle.rows.proofs.Usual.{arith, shr_z, w16, SFits, back, fit_abs}
use Rattle.rows.proofs.Laws.Filters.Near.{high_byte}
use Rattle.rows.proofs.near.near_high_i16.Goals as goal
use Rattle.rows.proofs.near.near_high_i16.Goals.{Start}

high : (s : Start) → SFits w16 (shr_z s.args.x 256)
high s = fit_abs w16 (shr_z s.args.x 256) (omega (arith, high_byte s.args.x s.ranges.x))

pub returns : goal.returns
returns c =
    let fr : SFits w16 c.near_tap.result = omega arith in
    rw (back fr) (rw (back c.ranges.acc, back c.ranges.f, back c.ranges.x, back (high (goal.at.returns c).Start)) at c.near_tap.ensures)
