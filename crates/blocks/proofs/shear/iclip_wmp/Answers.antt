use Rattle.blocks.proofs.Usual.{arith, pos, ℤ, ◌+ℤ◌, ◌-ℤ◌, shr_z, w32, w16, w64, SFits, back, back32}
use Rattle.rows.specs.Shear.{is_neg, Q}
use Rattle.rows.proofs.Laws.Numbers.Signed.{mag-add, mag-sub, mag_shr}
use Rattle.blocks.proofs.Laws.Warp.Shears.{neg_bit, neg_small, down_fits}
use Rattle.blocks.proofs.shear.iclip_wmp.Goals as goal
use Rattle.blocks.proofs.shear.iclip_wmp.Goals.{Start}

module _ (c : Start) where
  abbrev v : ℤ
  v = c.args.v

  sum : SFits w64 (v +ℤ pos 32)
  sum = omega (arith, mag-add v (pos 32))

  all : SFits w64 (v +ℤ pos 32 -ℤ pos (is_neg v))
  all = omega (arith, mag-add v (pos 32), mag-sub (v +ℤ pos 32) (pos (is_neg v)), neg_small v)

pub returns : goal.returns
unfolding Q
returns c =
    let s = (goal.at.returns c).Start in
    let cut = c.keep32 in
    let f : SFits w32 cut.result = omega arith in
    let g : SFits w32 (shr_z cut.result 64) = omega (arith, mag_shr cut.result 64) in
    let r : SFits w16 c.clip_wmp.result = omega arith in
    rw (
      back r,
      c.clip_wmp.ensures,
      back f,
      back g,
      back (down_fits _ f),
      cut.ensures,
      back32 c.ranges.v,
      back (sum s),
      back c.ranges.v,
      neg_bit (v s),
      back (all s),
    )
