use Rattle.rows.proofs.Usual.{◌*◌, ◌≤◌, ◌^◌, arith, ℤ, ◌+ℤ◌, ◌*ℤ◌, shr_z, mag, w32, SFits, back, mag-add, mag-mul}
use Rattle.rows.proofs.Laws.Numbers.Signed.{mag_shr, mag-abs}
use Rattle.rows.proofs.blend.scaled.Goals as goal
use Rattle.rows.proofs.blend.scaled.Goals.{Start}

abbrev P : Start → ℤ
P c = c.args.alpha *ℤ c.args.d

small : (c : Start) → mag (P c) ≤ 2 ^ 14 * 65535
small c = mag-mul c.args.alpha c.args.d (2 ^ 14) 65535 c.requires.0 c.requires.1

product : (c : Start) → SFits w32 (P c)
product c = omega (arith, small c)

sum : (c : Start) → SFits w32 (P c +ℤ c.args.beta)
sum c = omega (arith, small c, mag-add (P c) c.args.beta, mag-abs c.args.beta)

shifted : (c : Start) → SFits w32 (shr_z (P c +ℤ c.args.beta) 256)
shifted c = omega (arith, sum c, mag_shr (P c +ℤ c.args.beta) 256)

pub returns : goal.returns
returns c = simp (back c.ranges.alpha, back c.ranges.beta, back c.ranges.d, back (product c), back (sum c), back (shifted c))
