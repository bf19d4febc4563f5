use Rattle.rows.proofs.Usual.{◌*◌, ◌≤◌, ◌^◌, ◌/◌, arith, pos, ◌+ℤ◌, ◌*ℤ◌, nat_abs, w32, SFits, back, backn, fit_abs, back16, abs_mag}
use Rattle.rows.proofs.Usual.{abs-add}
use native.Mathlib.Nat.{div-le_self}
use Rattle.rows.proofs.Laws.Numbers.Signed.{abs-mul-le}
use Rattle.rows.proofs.near.near_join.Goals as goal
use Rattle.rows.proofs.near.near_join.Goals.{Start}

less : (s : Start) → 256 / 2 ^ s.args.n ≤ 256
less s = div-le_self 256 (2 ^ s.args.n)

small : (s : Start) → nat_abs (s.args.high *ℤ pos (256 / 2 ^ s.args.n)) ≤ 32640 * 256
small s = abs-mul-le s.args.high (pos (256 / 2 ^ s.args.n)) 32640 256 s.requires.0 (less s)

product : (s : Start) → SFits w32 (s.args.high *ℤ pos (256 / 2 ^ s.args.n))
product s = fit_abs w32 (s.args.high *ℤ pos (256 / 2 ^ s.args.n)) (omega (arith, small s))

sum : (s : Start) → SFits w32 (s.args.high *ℤ pos (256 / 2 ^ s.args.n) +ℤ s.args.part)
sum s =
    fit_abs w32 (s.args.high *ℤ pos (256 / 2 ^ s.args.n) +ℤ s.args.part)
    (omega (arith, small s, s.ranges.part, abs_mag s.args.part, abs-add (s.args.high *ℤ pos (256 / 2 ^ s.args.n)) s.args.part))

pub overflow_mul-result : goal.overflow_mul-result
overflow_mul-result c = rw (back16 c.ranges.high, backn w32 (256 / 2 ^ c.args.n) (omega (arith, less c))) (product c)

pub overflow_add-result : goal.overflow_add-result
overflow_add-result c = rw (back16 c.ranges.high, backn w32 (256 / 2 ^ c.args.n) (omega (arith, less c)), back (product c), back16 c.ranges.part) (sum c)

pub returns : goal.returns
returns c = rw (back16 c.ranges.high, backn w32 (256 / 2 ^ c.args.n) (omega (arith, less c)), back (product c), back16 c.ranges.part, back (sum c))
