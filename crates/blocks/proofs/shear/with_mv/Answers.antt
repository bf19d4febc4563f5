use Rattle.blocks.proofs.Usual.{◌≡◌, ◌∙◌, ℕ, ◌≤◌, arith, pos, ℤ, nat_abs, ◌-ℤ◌, w32, SFits, to_z, of_z, at, back, fit, fit_abs}
use Rattle.rows.specs.Shear.{middle, entry0, entry1}
use Rattle.rows.proofs.Laws.Numbers.Signed.{abs-sub}
use Rattle.blocks.specs.Shear.{with_mv}
use Rattle.blocks.proofs.shear.with_mv.Goals as goal
use Rattle.blocks.proofs.shear.with_mv.Goals.{After-m5-1}

module _ (c : After-m5-1) where
  abbrev M : ℕ → ℤ
  M i = at c.args.wm.matrix i

  entries : SFits w32 (M 2) × SFits w32 (M 3) × SFits w32 (M 4) × SFits w32 (M 5)
  entries = (fit w32 c.m2-1.given, fit w32 c.m3-1.given, fit w32 c.m4-1.given, fit w32 c.m5-1.given)

  affine : SFits w32 c.args.wm.affine
  affine = fit w32 c.struct_told-1.given.1.1.0.1

  fx : SFits w32 c.middle_of-x.result
  fx = omega arith

  fy : SFits w32 c.middle_of-y.result
  fy = omega arith

  x-is : to_z w32 (of_z w32 c.middle_of-x.result) ≡ middle c.args.bx4 c.args.bw4
  x-is = back fx ∙ (rw (back c.ranges.bx4, back c.ranges.bw4) at c.middle_of-x.ensures.0)

  y-is : to_z w32 (of_z w32 c.middle_of-y.result) ≡ middle c.args.by4 c.args.bh4
  y-is = back fy ∙ (rw (back c.ranges.by4, back c.ranges.bh4) at c.middle_of-y.ensures.0)

  d2 : nat_abs (M 2 -ℤ pos 65536) ≤ 8388608
  d2 = omega (arith, c.requires, abs-sub (M 2) (pos 65536))

  d5 : nat_abs (M 5 -ℤ pos 65536) ≤ 8388608
  d5 = omega (arith, c.requires, abs-sub (M 5) (pos 65536))

  g2 : SFits w32 (M 2 -ℤ pos 65536)
  g2 = fit_abs w32 _ (omega (arith, d2))

  g5 : SFits w32 (M 5 -ℤ pos 65536)
  g5 = fit_abs w32 _ (omega (arith, d5))

pub returns : goal.returns
unfolding with_mv entry0 entry1
returns c =
    let s = (goal.at.returns c).After-m5-1 in
    let r0 : SFits w32 c.offset_of-e0.result = omega arith in
    let r1 : SFits w32 c.offset_of-e1.result = omega arith in
    rw (
      back r0,
      back r1,
      back (affine s),
      c.offset_of-e1.ensures,
      c.offset_of-e0.ensures,
      back c.ranges.mv_x,
      back c.ranges.mv_y,
      x-is s,
      y-is s,
      back (entries s).0,
      back (entries s).1,
      back (entries s).2,
      back (entries s).3,
      back (g2 s),
      back (g5 s),
    )
