use Rattle.blocks.proofs.Usual.{◌≤◌, ◌^◌, arith, pos, ℤ, nat_abs, ◌*ℤ◌, w32, w16, w64, SFits, back, back32}
use Rattle.rows.specs.Shear.{shear_c}
use Rattle.rows.proofs.Laws.Numbers.Signed.{abs-mul-le, mag-abs}
use Rattle.blocks.proofs.shear.shear_c.Goals as goal
use Rattle.blocks.proofs.shear.shear_c.Goals.{Start}

-- The products are below 2^54.
module _ (c : Start) where
  abbrev first : ℤ
  first = pos 65536 *ℤ c.args.m4

  abbrev v : ℤ
  v = first *ℤ c.args.y

  first-le : nat_abs first ≤ 2 ^ 38
  first-le = abs-mul-le (pos 65536) c.args.m4 65536 (2 ^ 22) (omega arith) (omega arith)

  v-le : nat_abs v ≤ 2 ^ 54
  v-le = abs-mul-le first c.args.y (2 ^ 38) 65536 first-le (omega arith)

  first_fits : SFits w64 first
  first_fits = omega (arith, first-le, mag-abs first)

  v-fits : SFits w64 v
  v-fits = omega (arith, v-le, mag-abs v)

pub returns : goal.returns
unfolding shear_c
returns c =
    let s = (goal.at.returns c).Start in
    let r : SFits w16 c.iclip_wmp.result = omega arith in
    let q : SFits w32 c.round_shift.result = omega arith in
    rw (back r, c.iclip_wmp.ensures, back q, c.round_shift.ensures, back32 c.ranges.m4, back32 c.ranges.y, back (first_fits s), back (v-fits s))

pub round_shift-requires : goal.round_shift-requires
round_shift-requires c = rw (back32 c.ranges.m4, back32 c.ranges.y, back (first_fits c), back (v-fits c)) (omega (arith, v-le c))
