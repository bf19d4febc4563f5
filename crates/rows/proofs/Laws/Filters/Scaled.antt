-- Rows from a reference of another size: how far their positions go, and the intermediate at a position, by its fraction. Assumes nothing.
use Rattle.rows.proofs.Usual.{List, ◌≡◌, ◌∙◌, ap, sym, ◌-◌, ◌+◌, ◌*◌, ◌≤◌, ◌<◌, ◌^◌, ℕ, suc, zero, add-zero, arith, pos, ℤ, length, get_or, px}
use Rattle.rows.proofs.Usual.{minus16, low16, span}
use native.Mathlib.Nat.{mul-le-mul}
use Rattle.rows.specs.Numbers.{half}
use Rattle.rows.specs.Copy.{prep}
use Rattle.rows.specs.Subpel.{filter, tapped}
use Rattle.rows.specs.Bilinear.{R}
use Rattle.rows.specs.Scaled.{position, pixel_of, sixteenth, in_family, scaled_mid}
use Rattle.rows.specs.inner.Scaled.{eight_at, Steps}
use Rattle.rows.proofs.Laws.Numbers.Low.{low16_again, low16_keeps}
use Rattle.rows.proofs.Laws.Filters.Bilinear.{shr-none}
use Rattle.rows.proofs.Laws.Filters.Taps.{tapped_same}
use Rattle.rows.proofs.Laws.Filters.Warp.{lent-filter}

-- how far a row of 64 columns goes: its pixels are numbered by bytes
pub position-small : {start step i : ℕ} → Steps start step → i < 64 → position start step i < 2 ^ 18
position-small {start} {step} {i} s h = let m : i ≤ 63 = omega arith in omega (arith, mul-le-mul m s.1)

pub position-lt : {start step i : ℕ} → Steps start step → i < 64 → position start step i < 2 ^ 20
position-lt s h = omega (arith, position-small s h)

-- what a table of five families lends at the place of a fraction's filter
pub family-lent : (table : List ℤ) (k p : ℕ) → length table ≡ 600 → k ≤ 4
    → let n = 15 * k + (sixteenth p - 1) in span table (8 * n) (8 * n + 8) ≡ filter table n
family-lent table k p l h = lent-filter table _ (omega arith)

module _ (B : ℕ) (table : List ℤ) (k : ℕ) where
  -- the filter of a fraction that isn't 0
  by_fraction : (x : ℕ → ℕ) (f : ℕ) → 0 < f
      → low16 (tapped (filter table (15 * k + (f - 1))) (half (6 - B)) (6 - B) (λ a. pos (x a))) ≡ scaled_mid B (in_family table k f) x
  unfolding scaled_mid in_family
  by_fraction x zero h = absurd (omega arith)
  by_fraction x (suc f) h = ap (λ (n : ℕ). low16 (tapped (filter table n) (half (6 - B)) (6 - B) (λ a. pos (x a)))) (omega arith)

  pub mid_by : (src : List ℕ) (o p : ℕ) → 0 < sixteenth p → 3 ≤ o + pixel_of p
      → minus16 (low16 (tapped (filter table (15 * k + (sixteenth p - 1))) (half (6 - B)) (6 - B) (λ t. px src (o + pixel_of p - 3 + t * 1)))) (pos 0)
      ≡ scaled_mid B (in_family table k (sixteenth p)) (eight_at (λ n. get_or src n 0) o p)
  mid_by src o p h g =
      low16_again _
      ∙ ap low16 (tapped_same _ _ _ _ _ λ t b. ap (px src) (omega arith))
      ∙ by_fraction (eight_at (λ n. get_or src n 0) o p) (sixteenth p) h

  -- the pixel alone at a fraction of 0
  pub mid-whole : (src : List ℕ) (o p : ℕ) → sixteenth p ≡ 0
      → prep B 0 (get_or src (o + pixel_of p) 0) ≡ scaled_mid B (in_family table k (sixteenth p)) (eight_at (λ n. get_or src n 0) o p)
  unfolding prep scaled_mid in_family
  mid-whole src o p e = rw e (ap (λ (n : ℕ). low16 (pos n)) (add-zero _ ∙ ap (λ (n : ℕ). get_or src n 0 * 2 ^ B) (omega arith)))

-- the sum of two bytes is kept as it is
pub byte_mid : {r : ℕ} {s : ℤ} → pos r ≡ s → r ≤ 4080 → pos r ≡ low16 (R 0 s)
unfolding R
byte_mid {r} {s} e b = sym (low16_keeps (pos r) (omega arith)) ∙ ap low16 (e ∙ sym (shr-none s))
