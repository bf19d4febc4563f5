-- Rows changed where they lie: a row that a loop has yet to reach is the entry's. Assumes nothing.
use Rattle.blocks.proofs.Usual.{List, inr, ◌≡◌, ◌∙◌, ap, ℕ, ◌≤◌, ◌*◌, ◌+◌, ◌<◌, arith, length, get_or, span, splice, row_of, Rows, row_same, Filled, row_in}
use Rattle.blocks.proofs.Usual.{filled_more, filled_span}
use native.Mathlib.Nat.{le_refl}
use Rattle.rows.proofs.Laws.Blocks.Places.{span-at}
use Rattle.rows.proofs.Laws.Blocks.Fill.{fill_out}

module _ {A : Type 0} (z : A) where
  pub filled_here : {s w : ℕ} {f : ℕ → ℕ → A} {d₀ : List A} {h y : ℕ} {d : List A} → Filled s w f d₀ h y d → Rows (length d₀) s w h → y < h
      → (i : ℕ) → i < w → get_or (span d (y * s) (y * s + w)) i z ≡ get_or d₀ (y * s + i) z
  filled_here {s} {w} {f} {d₀} {h} {y} {d} p b lt i k =
      let n : y * s + w ≤ length d₀ = row_in y b lt in
      span-at z d (y * s) (y * s + w) (omega (arith, p)) i (omega arith)
      ∙ ap (λ (l : List A). get_or l (y * s + i) z) p.is
      ∙ fill_out z s d₀ w y f i y (omega (arith, b)) (inr (le_refl y)) (omega arith)

  -- so a row kernel that changes each pixel by g leaves the picture that g makes of the entry's pixels
  pub filled_over : (g : ℕ → ℕ → A → A) {s w : ℕ} {d₀ : List A} {h y : ℕ} {d : List A} (r : List A)
      → Filled s w (λ i j. g i j (get_or d₀ (j * s + i) z)) d₀ h y d
      → 1 ≤ w → Rows (length d₀) s w h → y < h → r ≡ row_of (length (span d (y * s) (y * s + w))) (λ i. g i y (get_or (span d (y * s) (y * s + w)) i z))
      → Filled s w (λ i j. g i j (get_or d₀ (j * s + i) z)) d₀ h (y + 1) (splice d (y * s) (y * s + w) r)
  filled_over g {s} {w} {d₀} {h} {y} {d} r p w1 b lt e =
      let n = filled_span z p b lt in
      filled_more z r p w1 b lt
      (e
      ∙ row_same z (length (span d (y * s) (y * s + w))) (λ i. g i y (get_or (span d (y * s) (y * s + w)) i z)) (λ i. g i y (get_or d₀ (y * s + i) z)) λ i k.
      ap (g i y) (filled_here p b lt i (omega arith)))
