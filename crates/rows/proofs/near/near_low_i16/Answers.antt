use Rattle.rows.proofs.Usual.{arith, pos, ◌*ℤ◌, shr_z, w16, SFits, mod_z, back, fit, fit_abs}
use Rattle.rows.proofs.Laws.Filters.Near.{high_byte, high-up, low_byte, low-is}
use Rattle.rows.proofs.near.near_low_i16.Goals as goal
use Rattle.rows.proofs.near.near_low_i16.Goals.{Start}

high : (s : Start) → SFits w16 (shr_z s.args.x 256)
high s = fit_abs w16 (shr_z s.args.x 256) (omega (arith, high_byte s.args.x s.ranges.x))

up : (s : Start) → SFits w16 (shr_z s.args.x 256 *ℤ pos 256)
up s = high-up s.args.x s.ranges.x

low : (s : Start) → SFits w16 (pos (mod_z s.args.x 256))
low s = fit w16 (omega (arith, low_byte s.args.x))

pub returns : goal.returns
returns c =
    let s = (goal.at.returns c).Start in
    let fr : SFits w16 c.near_tap.result = omega arith in
    rw (back fr)
    (rw (back c.ranges.acc, back c.ranges.f, back c.ranges.x, back (high s), back (up s), low-is c.args.x, back (low s)) at c.near_tap.ensures)
