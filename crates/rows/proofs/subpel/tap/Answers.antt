use Rattle.rows.proofs.Usual.{◌<◌, ◌^◌, arith, ◌+ℤ◌, ◌*ℤ◌, mag, w32, SFits, back, mag-add, abs_mag, mag-mul}
use Rattle.rows.proofs.Laws.Numbers.Signed.{back8}
use Rattle.rows.proofs.subpel.tap.Goals as goal
use Rattle.rows.proofs.subpel.tap.Goals.{Start}

small : (c : Start) → mag (c.args.f *ℤ c.args.x) < 2 ^ 24
small c = omega (arith, mag-mul c.args.f c.args.x 128 65536 (omega (arith, abs_mag c.args.f)) c.requires.1)

product : (c : Start) → SFits w32 (c.args.f *ℤ c.args.x)
product c = omega (arith, small c)

sum : (c : Start) → SFits w32 (c.args.acc +ℤ c.args.f *ℤ c.args.x)
sum c = omega (arith, small c, mag-add c.args.acc (c.args.f *ℤ c.args.x))

pub returns : goal.returns
returns c = (simp (back8 c.ranges.f, back c.ranges.x, back c.ranges.acc, back (product c), back (sum c)), small c)
