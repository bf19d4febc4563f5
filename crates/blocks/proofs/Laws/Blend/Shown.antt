-- Rows of pixels changed where they lie, by the pixels' numbers. Assumes nothing.
use Rattle.rows.proofs.Usual.{List, ◌≡◌, ◌∙◌, ap, ap₂, subst, sym, ◌+◌, ◌*◌, ◌≤◌, ◌<◌, ℕ, length, get_or, span, splice, row_of}
use mathlib.Core.List.{map}
use Rattle.rows.proofs.Laws.Pixels.Values.{values-length, values-span, values-splice}
use Rattle.blocks.specs.inner.Ready.{Rows}
use Rattle.blocks.proofs.Laws.Loops.Rows.{Filled}
use Rattle.blocks.proofs.Laws.Loops.InPlace.{filled_over}
use Rattle.blocks.proofs.Laws.Loops.Shown.{rows_shown}

module _ {P : Type 0} {value : P → ℕ} {values : List P → List ℕ} (each : (l : List P) → values l ≡ map value l) where
  -- what filled_over is, for a destination of pixels
  pub shown_over : (g : ℕ → ℕ → ℕ → ℕ) {s w : ℕ} {d₀ : List P} {h y : ℕ} {d : List P} (r : List P)
      → Filled s w (λ i j. g i j (get_or (values d₀) (j * s + i) 0)) (values d₀) h y (values d)
      → 1 ≤ w → Rows (length d₀) s w h → y < h
      → values r ≡ row_of (length (span d (y * s) (y * s + w))) (λ i. g i y (get_or (values (span d (y * s) (y * s + w))) i 0))
      → Filled s w (λ i j. g i j (get_or (values d₀) (j * s + i) 0)) (values d₀) h (y + 1) (values (splice d (y * s) (y * s + w) r))
  shown_over g {s} {w} {d₀} {h} {y} {d} r p w1 b lt e =
      let part = values-span each d (y * s) (y * s + w) in
      let long = sym (values-length each (span d (y * s) (y * s + w))) ∙ ap length part in
      let f = λ (i j : ℕ). g i j (get_or (values d₀) (j * s + i) 0) in
      let e' : values r ≡ row_of (length (span (values d) (y * s) (y * s + w))) (λ i. g i y (get_or (span (values d) (y * s) (y * s + w)) i 0)) =
      e ∙ ap₂ (λ (n : ℕ) (l : List ℕ). row_of n (λ i. g i y (get_or l i 0))) long part in
      subst (Filled s w f (values d₀) h (y + 1)) (sym (values-splice each d (y * s) (y * s + w) r))
      (filled_over 0 g (values r) p w1 (rows_shown each d₀ b) lt e')
