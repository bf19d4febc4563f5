-- Bilinear blocks of pixels, by the pixels' numbers: a turn of a pass, and what a block relies on. Assumes nothing.
use Rattle.blocks.proofs.Usual.{List, ◌≡◌, sym, subst, ℕ, ◌+◌, ◌<◌, length, row_fits, Filled}
use mathlib.Core.List.{map}
use Rattle.rows.proofs.Laws.Pixels.Values.{values-length}
use Rattle.blocks.specs.inner.Ready.{Pairs, PairsIn, Bilin}
use Rattle.blocks.proofs.Laws.Bilinear.Ready.{Turn, TurnIn}
use Rattle.blocks.proofs.Laws.Loops.Shown.{shown_turn}
use Rattle.blocks.proofs.Laws.Loops.Stands.{stood_row}
use Rattle.blocks.specs.declared.source.Stand.{Stand}

module _ {P : Type 0} {value : P → ℕ} {values : List P → List ℕ} (each : (l : List P) → values l ≡ map value l) where
  pub turn_shown : {ds sl ss step w h f n y : ℕ} {p : ℕ → ℕ → ℕ} {d₀ d : List P}
      → Pairs (length d₀) ds sl ss step w h f n → Filled ds w p (values d₀) h y (values d) → y < h → Turn d ds sl ss step w y
  turn_shown {ds} {sl} {ss} {step} {w} {h} {f} {n} {y} r q lt =
      let t = shown_turn each q r.dst lt in
      record { dst = t.room; src = row_fits sl ss (w + step) h y r.src lt; long = t.long }

  pub turn-in_shown : {ds sl : ℕ} {s : Stand} {step w h f n y : ℕ} {p : ℕ → ℕ → ℕ} {d₀ d : List P}
      → PairsIn (length d₀) ds sl s step w h f n → Filled ds w p (values d₀) h y (values d) → y < h → TurnIn d ds sl s step w y
  turn-in_shown {y = y} r q lt =
      let t = shown_turn each q r.dst lt in
      record { dst = t.room; src = stood_row y r.src lt; long = t.long }

  -- a source that holds the block, its numbers hold it, and so do those of a destination
  pub bilin_read : (src : List P) {dl ds : ℕ} {s : Stand} {w h f g : ℕ} → Bilin dl ds (length src) s w h f g → Bilin dl ds (length (values src)) s w h f g
  bilin_read src {dl} {ds} {s} {w} {h} {f} {g} b = subst (λ n. Bilin dl ds n s w h f g) (sym (values-length each src)) b

  pub bilin_shown : (d src : List P) {ds : ℕ} {s : Stand} {w h f g : ℕ} → Bilin (length d) ds (length src) s w h f g
      → Bilin (length (values d)) ds (length (values src)) s w h f g
  bilin_shown d src {ds} {s} {w} {h} {f} {g} b =
      subst (λ n. Bilin n ds (length (values src)) s w h f g) (sym (values-length each d)) (bilin_read src b)
