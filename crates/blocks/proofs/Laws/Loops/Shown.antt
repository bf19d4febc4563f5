-- Where a loop over the rows of a block of pixels stands, by the pixels' numbers. Assumes nothing.
use Rattle.rows.proofs.Usual.{List, ◌≡◌, ◌∙◌, ap, subst, sym, ◌+◌, ◌*◌, ◌≤◌, ◌<◌, ℕ, arith, length, span, splice, row_of}
use mathlib.Core.List.{map}
use Rattle.rows.proofs.Laws.Pixels.Values.{values-length, values-span, values-splice}
use Rattle.blocks.specs.inner.Ready.{Rows}
use Rattle.blocks.proofs.Laws.Loops.Rows.{Filled, filled_none, filled_more, Turn, turn}

module _ {P : Type 0} {value : P → ℕ} {values : List P → List ℕ} (each : (l : List P) → values l ≡ map value l) where
  -- rows that a buffer holds, its numbers hold
  pub rows_shown : (d : List P) {s w h : ℕ} → Rows (length d) s w h → Rows (length (values d)) s w h
  rows_shown d {s} {w} {h} r = subst (λ n. Rows n s w h) (sym (values-length each d)) r

  pub shown_none : (f : ℕ → ℕ → ℕ) (d : List P) {s w h : ℕ} → 0 < s → Filled s w f (values d) h 0 (values d)
  shown_none f d {s} {w} {h} p = filled_none 0 s w f (values d) h p

  -- row y was lent as `&mut d[y * s..y * s + w]`, and a row kernel left its pixels as the picture has them
  pub shown_more : {s w : ℕ} {f : ℕ → ℕ → ℕ} {d₀ : List P} {h y : ℕ} {d : List P} (r : List P) → Filled s w f (values d₀) h y (values d)
      → 1 ≤ w → Rows (length d₀) s w h → y < h → values r ≡ row_of (length (span d (y * s) (y * s + w))) (λ i. f i y)
      → Filled s w f (values d₀) h (y + 1) (values (splice d (y * s) (y * s + w) r))
  shown_more {s} {w} {f} {d₀} {h} {y} {d} r p w1 b lt e =
      let long = values-length each (span d (y * s) (y * s + w)) in
      let e' : values r ≡ row_of (length (span (values d) (y * s) (y * s + w))) (λ i. f i y) =
      e ∙ ap (λ n. row_of n (λ i. f i y)) (sym long ∙ ap length (values-span each d (y * s) (y * s + w))) in
      subst (Filled s w f (values d₀) h (y + 1)) (sym (values-splice each d (y * s) (y * s + w) r))
      (filled_more 0 (values r) p w1 (rows_shown d₀ b) lt e')

  -- in a turn at row y, the row is within the buffer as it stands, and the part lent is as long as the row
  pub shown_turn : {s w : ℕ} {f : ℕ → ℕ → ℕ} {d₀ : List P} {h y : ℕ} {d : List P} → Filled s w f (values d₀) h y (values d) → Rows (length d₀) s w h → y < h → Turn s w y d
  shown_turn {s} {w} {f} {d₀} {h} {y} {d} p b lt =
      let t = turn 0 p (rows_shown d₀ b) lt in
      record {
        room = omega (arith, t.room, values-length each d);
        long = sym (values-length each (span d (y * s) (y * s + w))) ∙ ap length (values-span each d (y * s) (y * s + w)) ∙ t.long;
      }
