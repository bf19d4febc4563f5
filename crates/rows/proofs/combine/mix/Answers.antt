use Rattle.rows.proofs.Usual.{◌*◌, ◌≤◌, ◌^◌, arith, pos, ℤ, ◌+ℤ◌, ◌*ℤ◌, ◌-ℤ◌, shr_z, mag, w32, SFits, back, backn, mag-add, back16}
use Rattle.rows.proofs.Usual.{abs_mag, mag-mul}
use lib.Signed.{mag_shr}
use Rattle.rows.proofs.Laws.Numbers.Signed.{mag-sub}
use Rattle.rows.proofs.combine.mix.Goals as goal
use Rattle.rows.proofs.combine.mix.Goals.{Start}

-- Each step fits an i32, and what is read back from a step's bits is the step.
module _ (c : Start) where
  abbrev a : ℤ
  a = c.args.a

  abbrev b : ℤ
  b = c.args.b

  abbrev k : ℤ
  k = c.args.k

  abbrev r : ℤ
  r = pos c.args.r

  abbrev d : ℤ
  d = c.args.t -ℤ k

  diff : SFits w32 d
  diff = omega (arith, mag-sub c.args.t k)

  ka : mag (k *ℤ a) ≤ 256 * 32768
  ka = mag-mul k a 256 32768 (omega (arith, abs_mag k)) (omega (arith, abs_mag a))

  db : mag (d *ℤ b) ≤ 512 * 32768
  db = mag-mul d b 512 32768 (omega (arith, abs_mag d, mag-sub c.args.t k)) (omega (arith, abs_mag b))

  ka-fits : SFits w32 (k *ℤ a)
  ka-fits = omega (arith, ka)

  db-fits : SFits w32 (d *ℤ b)
  db-fits = omega (arith, db)

  sum : SFits w32 (k *ℤ a +ℤ d *ℤ b)
  sum = omega (arith, ka, db, mag-add (k *ℤ a) (d *ℤ b))

  all : SFits w32 (k *ℤ a +ℤ d *ℤ b +ℤ r)
  all = omega (arith, ka, db, mag-add (k *ℤ a) (d *ℤ b), mag-add (k *ℤ a +ℤ d *ℤ b) r)

  shifted : SFits w32 (shr_z (k *ℤ a +ℤ d *ℤ b +ℤ r) (2 ^ c.args.n))
  shifted = omega (arith, all, mag_shr (k *ℤ a +ℤ d *ℤ b +ℤ r) (2 ^ c.args.n))

pub overflow_mul-result-2 : goal.overflow_mul-result-2
overflow_mul-result-2 c = simp (back c.ranges.t, back c.ranges.k, back (diff c), back16 c.ranges.b) (db-fits c)

pub overflow_add-result : goal.overflow_add-result
overflow_add-result c =
    simp (back c.ranges.t, back c.ranges.k, back16 c.ranges.a, back16 c.ranges.b, back (diff c), back (ka-fits c), back (db-fits c))
    (sum c)

pub overflow_add-result-2 : goal.overflow_add-result-2
overflow_add-result-2 c =
    let e = backn w32 c.args.r (omega arith) in
    simp (back c.ranges.t, back c.ranges.k, e, back16 c.ranges.a, back16 c.ranges.b, back (diff c), back (ka-fits c), back (db-fits c), back (sum c))
    (all c)

pub returns : goal.returns
returns c =
    let e = backn w32 c.args.r (omega arith) in
    simp (back c.ranges.t, back c.ranges.k, e, back16 c.ranges.a, back16 c.ranges.b, back (diff c), back (ka-fits c), back (db-fits c), back (sum c))
    (simp (back (all c), back (shifted c)))
