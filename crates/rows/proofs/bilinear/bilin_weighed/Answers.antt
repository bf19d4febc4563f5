use Rattle.rows.proofs.Usual.{◌-◌, ◌*◌, ◌≤◌, arith, pos, ℤ, ◌+ℤ◌, ◌*ℤ◌, mag, w32, SFits, back, backn, mag-add, mag-mul}
use Rattle.rows.proofs.Laws.Filters.Bilinear.{weighed}
use Rattle.rows.proofs.bilinear.bilin_weighed.Goals as goal
use Rattle.rows.proofs.bilinear.bilin_weighed.Goals.{Start}

module _ (c : Start) where
  abbrev l : ℤ
  l = pos (16 - c.args.f) *ℤ c.args.a

  abbrev r : ℤ
  r = pos c.args.f *ℤ c.args.b

  l_le : mag l ≤ 16 * 65535
  l_le = mag-mul (pos (16 - c.args.f)) c.args.a 16 65535 (omega arith) c.requires.0

  r-le : mag r ≤ 16 * 65535
  r-le = mag-mul (pos c.args.f) c.args.b 16 65535 c.requires.2 c.requires.1

  l-fits : SFits w32 l
  l-fits = omega (arith, l_le)

  r-fits : SFits w32 r
  r-fits = omega (arith, r-le)

  all : SFits w32 (l +ℤ r)
  all = omega (arith, l_le, r-le, mag-add l r)

pub returns : goal.returns
returns c =
    let e = backn w32 c.args.f (omega arith) in let e2 = backn w32 (16 - c.args.f) (omega arith) in
    simp (back c.ranges.a, back c.ranges.b, e, e2, back (l-fits c), back (r-fits c), back (all c))
    (weighed c.args.f c.args.a c.args.b (omega arith), omega (arith, l_le c, r-le c, mag-add (l c) (r c)))
