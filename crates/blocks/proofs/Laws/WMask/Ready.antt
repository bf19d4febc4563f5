-- w_mask: what its flags tell, and what its rows rely on. Assumes nothing.
use Rattle.blocks.proofs.Usual.{true, Bool, false, List, ◌≡◌, refl, sym, ℕ, ◌≤◌, ◌%◌, arith, eqb-true, pos, ℤ, length, le_z, up, fill, lowest, Rows}
use Rattle.blocks.proofs.Usual.{and_true, one-part, le_yes, rows_met, block_met, all_met}
use mathlib.Core.Bool.{true≢false}
use Rattle.rows.specs.WMask.{mask_at}
use Rattle.blocks.specs.inner.Ready.{Weighing}
use Rattle.blocks.specs.WMask.{even_ok, mask_side, flags_ok, sign_ok, w_mask_tests}
use Rattle.blocks.proofs.Laws.Loops.Gapless.{gapless_met}
use Rattle.blocks.proofs.Laws.WMask.Weighed.{Kept}

-- ---- what a test that is met tells
even_met : (flag : Bool) (n : ℕ) → even_ok flag n ≡ true → flag ≡ true → n % 2 ≡ 0
unfolding even_ok
even_met true n e f = eqb-true (n % 2) 0 e
even_met false n e f = absurd (true≢false (sym f))

pub flags_met : (ssHor ssVer : Bool) → flags_ok ssHor ssVer ≡ true → ssVer ≡ true → ssHor ≡ true
unfolding flags_ok
flags_met true ssVer e f = refl
flags_met false true e f = e
flags_met false false e f = absurd (true≢false (sym f))

-- so without ss_hor no ss_ver, and the mask m keeps each of the weights g
pub each_met : (sign : ℕ) (ssHor ssVer : Bool) {w h : ℕ} {m₀ m : List ℕ} {ms : ℕ} {g : ℕ → ℕ → ℕ} → flags_ok ssHor ssVer ≡ true → ssHor ≡ false
    → m ≡ fill m₀ ms (mask_side ssHor w) (mask_side ssVer h) (mask_at sign ssHor ssVer g) → Rows (length m₀) ms (mask_side ssHor w) (mask_side ssVer h)
    → Kept g m₀ ms w h m
unfolding flags_ok mask_at
each_met sign false false {w} {h} {m₀} {m} {ms} {g} o f e r = record { is = e; rows = r }
each_met sign false true {w} {h} {m₀} {m} {ms} {g} o f e r = absurd (true≢false (sym o))
each_met sign true ssVer {w} {h} {m₀} {m} {ms} {g} o f e r = absurd (true≢false f)

sign_met : (sign : ℤ) → sign_ok sign ≡ true → up sign ≤ 1
unfolding sign_ok
sign_met sign e =
    let p = and_true (le_z (pos 0) sign) (le_z sign (pos 1)) e in
    omega (arith, le_yes (pos 0) sign p.0, le_yes sign (pos 1) p.1, one-part sign)

-- a mask's row has at least one place
side_met : (flag : Bool) (n : ℕ) → even_ok flag n ≡ true → 1 ≤ n → 1 ≤ mask_side flag n
side_met true n e b = omega (arith, even_met true n e refl)
side_met false n e b = b

pub w-mask_ready : {deep : Bool} {dl ds l1 l2 w h ml ms : ℕ} (sign : ℤ) (ssHor ssVer : Bool)
    → lowest (w_mask_tests deep dl ds l1 l2 w h ml ms sign ssHor ssVer) ≡ 0
    → (deep ≡ true) × Rows dl ds w h × Weighing l1 l2 w h ml ms (mask_side ssHor w) (mask_side ssVer h) × (flags_ok ssHor ssVer ≡ true) × (up sign ≤ 1)
w-mask_ready {deep} {dl} {ds} {l1} {l2} {w} {h} {ml} {ms} sign ssHor ssVer e =
    let m = all_met (w_mask_tests deep dl ds l1 l2 w h ml ms sign ssHor ssVer) e in
    let b = block_met w h m.0 m.1.0 in
    let o = m.1.1 in let s = o.1.1 in let n = s.1.1 in let r = n.1.1.1 in (
      n.0,
      rows_met dl ds w h s.0 r.1.1.0,
      record {
        block = b;
        tmp1 = gapless_met l1 w h b r.0;
        tmp2 = gapless_met l2 w h b r.1.0;
        mw1 = side_met ssHor w o.0 b.w1;
        mask = rows_met ml ms (mask_side ssHor w) (mask_side ssVer h) s.1.0 r.1.1.1.0;
      },
      n.1.1.0,
      sign_met sign n.1.0,
    )
