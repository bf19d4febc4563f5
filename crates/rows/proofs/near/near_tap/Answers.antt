use Rattle.rows.proofs.Usual.{◌*◌, ◌≤◌, arith, ◌+ℤ◌, ◌*ℤ◌, nat_abs, w16, SFits, back, fit_abs, abs-add}
use native.Mathlib.Nat.{le_refl}
use Rattle.rows.proofs.Laws.Numbers.Signed.{abs-mul-le}
use Rattle.rows.proofs.Laws.Filters.Near.{back8_16}
use Rattle.rows.proofs.near.near_tap.Goals as goal
use Rattle.rows.proofs.near.near_tap.Goals.{Start}

small : (c : Start) → nat_abs (c.args.f *ℤ c.args.x) ≤ nat_abs c.args.f * 255
small c = abs-mul-le c.args.f c.args.x (nat_abs c.args.f) 255 (le_refl (nat_abs c.args.f)) c.requires.1

product : (c : Start) → SFits w16 (c.args.f *ℤ c.args.x)
product c = fit_abs w16 (c.args.f *ℤ c.args.x) (omega (arith, small c))

sum : (c : Start) → SFits w16 (c.args.acc +ℤ c.args.f *ℤ c.args.x)
sum c = fit_abs w16 (c.args.acc +ℤ c.args.f *ℤ c.args.x) (omega (arith, small c, abs-add c.args.acc (c.args.f *ℤ c.args.x)))

pub returns : goal.returns
returns c = (simp (back8_16 c.ranges.f, back c.ranges.x, back c.ranges.acc, back (product c), back (sum c)), small c)

pub overflow_add-result : goal.overflow_add-result
overflow_add-result c = simp (back8_16 c.ranges.f, back c.ranges.x, back c.ranges.acc, back (product c)) (sum c)
