use Rattle.rows.proofs.Usual.{◌≡◌, ◌*◌, ◌≤◌, ◌^◌, arith, pos, ℤ, ◌+ℤ◌, ◌*ℤ◌, nat_abs, shr_z, w32, SFits, to_z, of_z, back, backn, fit_abs}
use Rattle.rows.proofs.Usual.{mag-add, back16, abs_mag, abs-add}
use Rattle.rows.specs.Warp.{filter_no}
use Rattle.rows.proofs.Laws.Numbers.Signed.{abs-mul-le, mag-abs, mag_shr}
use Rattle.rows.proofs.warp.filter_no.Goals as goal
use Rattle.rows.proofs.warp.filter_no.Goals.{Start}

-- Every step is below 2^22.
module _ (c : Start) where
  abbrev A : ℤ
  A = pos c.args.c *ℤ c.args.a

  abbrev B : ℤ
  B = pos c.args.r *ℤ c.args.b

  abbrev s1 : ℤ
  s1 = c.args.m +ℤ A

  abbrev s2 : ℤ
  s2 = s1 +ℤ B

  abbrev s3 : ℤ
  s3 = s2 +ℤ pos 512

  la : nat_abs A ≤ 7 * 32768
  la = abs-mul-le (pos c.args.c) c.args.a 7 32768 (omega arith) (omega (arith, abs_mag c.args.a))

  lb : nat_abs B ≤ 14 * 32768
  lb = abs-mul-le (pos c.args.r) c.args.b 14 32768 (omega arith) (omega (arith, abs_mag c.args.b))

  l3 : nat_abs s3 ≤ 2 ^ 21
  l3 = omega (arith, la, lb, abs-add c.args.m A, abs-add s1 B, abs-add s2 (pos 512))

  rc : to_z w32 c.args.c ≡ pos c.args.c
  rc = backn w32 c.args.c (omega arith)

  fm : to_z w32 (of_z w32 c.args.m) ≡ c.args.m
  fm = back c.ranges.m

  rr : to_z w32 c.args.r ≡ pos c.args.r
  rr = backn w32 c.args.r (omega arith)

  a : SFits w32 A
  a = fit_abs w32 A (omega (arith, la))

  b : SFits w32 B
  b = fit_abs w32 B (omega (arith, lb))

  f1 : SFits w32 s1
  f1 = fit_abs w32 s1 (omega (arith, la, abs-add c.args.m A))

  f2 : SFits w32 s2
  f2 = fit_abs w32 s2 (omega (arith, la, lb, abs-add c.args.m A, abs-add s1 B))

  f3 : SFits w32 s3
  f3 = fit_abs w32 s3 (omega (arith, l3))

  f4 : SFits w32 (shr_z s3 1024)
  f4 = omega (arith, l3, mag-abs s3, mag_shr s3 1024)

  f5 : SFits w32 (pos 192 +ℤ shr_z s3 1024)
  f5 = omega (arith, l3, mag-abs s3, mag_shr s3 1024, mag-add (pos 192) (shr_z s3 1024))

pub overflow_add-result-3 : goal.overflow_add-result-3
overflow_add-result-3 c =
    simp (rc c, rr c, back16 c.ranges.a, back16 c.ranges.b, fm c, back (a c), back (b c), back (f1 c), back (f2 c)) (f3 c)

pub overflow_add-result-4 : goal.overflow_add-result-4
overflow_add-result-4 c =
    simp
    (rc c, rr c, back16 c.ranges.a, back16 c.ranges.b, fm c, back (a c), back (b c), back (f1 c), back (f2 c), back (f3 c), back (f4 c))
    (f5 c)

pub returns : goal.returns
unfolding filter_no
returns c =
    simp
    (rc c, rr c, back16 c.ranges.a, back16 c.ranges.b, fm c, back (a c), back (b c), back (f1 c), back (f2 c), back (f3 c), back (f4 c), back (f5 c))

pub overflow_add-result-2 : goal.overflow_add-result-2
overflow_add-result-2 c = simp (rc c, rr c, back16 c.ranges.a, back16 c.ranges.b, fm c, back (a c), back (b c), back (f1 c)) (f2 c)
