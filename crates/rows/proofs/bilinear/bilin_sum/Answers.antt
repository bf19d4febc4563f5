use Rattle.rows.proofs.Usual.{refl, ◌*◌, ◌≤◌, arith, pos, ℤ, ◌+ℤ◌, ◌*ℤ◌, ◌-ℤ◌, nat_abs, mag, w32, SFits, back, backn, mag-add, mag-mul}
use Rattle.rows.specs.Bilinear.{bilin}
use Rattle.rows.proofs.Laws.Numbers.Signed.{mag-abs, abs-sub}
use Rattle.rows.proofs.bilinear.bilin_sum.Goals as goal
use Rattle.rows.proofs.bilinear.bilin_sum.Goals.{Start}

module _ (c : Start) where
  abbrev l : ℤ
  l = pos 16 *ℤ c.args.a

  abbrev d : ℤ
  d = c.args.b -ℤ c.args.a

  abbrev r : ℤ
  r = pos c.args.f *ℤ d

  l_le : mag l ≤ 16 * 65535
  l_le = mag-mul (pos 16) c.args.a 16 65535 (omega arith) c.requires.0

  d-le : nat_abs d ≤ 131070
  d-le = omega (arith, abs-sub c.args.b c.args.a)

  r-le : mag r ≤ 15 * 131070
  r-le = mag-mul (pos c.args.f) d 15 131070 c.requires.2 d-le

  l-fits : SFits w32 l
  l-fits = omega (arith, l_le)

  d-fits : SFits w32 d
  d-fits = omega (arith, d-le, mag-abs d)

  r-fits : SFits w32 r
  r-fits = omega (arith, r-le)

  all : SFits w32 (l +ℤ r)
  all = omega (arith, l_le, r-le, mag-add l r)

pub overflow_add-result : goal.overflow_add-result
overflow_add-result c =
    let e = backn w32 c.args.f (omega arith) in
    simp (back c.ranges.a, back c.ranges.b, e, back (d-fits c), back (l-fits c), back (r-fits c)) (all c)

pub returns : goal.returns
unfolding bilin
returns c =
    let e = backn w32 c.args.f (omega arith) in
    simp (back c.ranges.a, back c.ranges.b, e, back (d-fits c), back (l-fits c), back (r-fits c), back (all c))
    (refl, omega (arith, l_le c, r-le c, mag-add (l c) (r c)))
