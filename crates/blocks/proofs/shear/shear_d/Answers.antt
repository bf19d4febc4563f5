use Rattle.blocks.proofs.Usual.{◌≤◌, ◌^◌, arith, ℤ, nat_abs, ◌*ℤ◌, w32, w16, w64, SFits, back, back32}
use Rattle.rows.specs.Shear.{shear_d}
use Rattle.rows.proofs.Laws.Numbers.Signed.{abs-mul-le, mag-abs}
use Rattle.blocks.proofs.shear.shear_d.Goals as goal
use Rattle.blocks.proofs.shear.shear_d.Goals.{Start}

-- The products are below 2^60.
module _ (c : Start) where
  abbrev first : ℤ
  first = c.args.m3 *ℤ c.args.m4

  abbrev v : ℤ
  v = first *ℤ c.args.y

  first-le : nat_abs first ≤ 2 ^ 44
  first-le = abs-mul-le c.args.m3 c.args.m4 (2 ^ 22) (2 ^ 22) (omega arith) (omega arith)

  v-le : nat_abs v ≤ 2 ^ 60
  v-le = abs-mul-le first c.args.y (2 ^ 44) 65536 first-le (omega arith)

  first_fits : SFits w64 first
  first_fits = omega (arith, first-le, mag-abs first)

  v-fits : SFits w64 v
  v-fits = omega (arith, v-le, mag-abs v)

pub round_shift-requires : goal.round_shift-requires
round_shift-requires c =
    rw (back32 c.ranges.m3, back32 c.ranges.m4, back32 c.ranges.y, back (first_fits c), back (v-fits c))
    (omega (arith, v-le c))

pub returns : goal.returns
unfolding shear_d
returns c =
    let s = (goal.at.returns c).Start in
    let q = c.round_shift in
    let one = c.wrapping_sub32 in
    let two = c.wrapping_sub32-2 in
    let fr : SFits w16 c.iclip_wmp.result = omega arith in
    let fq : SFits w32 q.result = omega arith in
    let f1 : SFits w32 one.result = omega arith in
    let f2 : SFits w32 two.result = omega arith in
    rw (
      back fr,
      c.iclip_wmp.ensures,
      back f2,
      two.ensures,
      back f1,
      one.ensures,
      back c.ranges.m5,
      back fq,
      q.ensures,
      back32 c.ranges.m3,
      back32 c.ranges.m4,
      back32 c.ranges.y,
      back (first_fits s),
      back (v-fits s),
    )

pub overflow_mul-v-2 : goal.overflow_mul-v-2
overflow_mul-v-2 c = rw (back32 c.ranges.m3, back32 c.ranges.m4, back32 c.ranges.y, back (first_fits c)) (v-fits c)
