use Rattle.blocks.proofs.Usual.{◌≡◌, ◌∙◌, ◌<◌, arith, pos, ℤ, ◌-ℤ◌, w32, SFits, mag, up, dn, back}
use Rattle.rows.proofs.Laws.Numbers.Signed.{mag-sub}
use Rattle.blocks.proofs.Laws.Combine.Calls.{weight_above, weight_below, above_fill, below_fill}
use Rattle.blocks.proofs.combine.w_avg_rows.Goals as goal
use Rattle.blocks.proofs.combine.w_avg_rows.Goals.{Then-weight-lt0, Else-weight-lt0}

fits : (weight : ℤ) → mag weight < 33 → SFits w32 (pos 16 -ℤ weight)
fits weight h = omega (arith, mag-sub (pos 16) weight)

below : (g : _) (c : Then-weight-lt0 g) → let k = pos 16 -ℤ c.args.weight in (dn k ≡ 0) × (up k < 64)
below g c = weight_below c.args.weight (rw (back c.ranges.weight) at c.if-weight-lt0.true) c.requires.4

above : (g : _) (c : Else-weight-lt0 g) → let k = c.args.weight in (dn k ≡ 0) × (up k < 64)
above g c = weight_above c.args.weight (rw (back c.ranges.weight) at c.if-weight-lt0.false) c.requires.4

pub returns-then-weight-lt0 : goal.returns-then-weight-lt0
returns-then-weight-lt0 g c =
    let a = c.args in
    let v = simp (back c.ranges.weight, back (fits a.weight c.requires.4)) at c.mask_of-m.ensures in
    c.mask_rows.ensures
    ∙ below_fill _ _ _ _ _ _ _ _ a.tmp1.now a.tmp2.now a.weight (omega (arith, c.requires)) c.requires.0.w64 v (below g (goal.at.returns-then-weight-lt0 g c).Then-weight-lt0).0

pub returns-else-weight-lt0 : goal.returns-else-weight-lt0
returns-else-weight-lt0 g c =
    let a = c.args in
    let v = simp (back c.ranges.weight) at c.mask_of-m-else-weight-lt0.ensures in
    c.mask_rows-else-weight-lt0.ensures
    ∙ above_fill _ _ _ _ _ _ _ _ a.tmp1.now a.tmp2.now a.weight (omega (arith, c.requires)) c.requires.0.w64 v (above g (goal.at.returns-else-weight-lt0 g c).Else-weight-lt0).0
