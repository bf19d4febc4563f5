-- Warp of pixels, by the pixels' numbers: a row more in a block, a source with its margins, and the shears as calls pass them. Assumes nothing.
use Rattle.blocks.proofs.Usual.{List, ◌≡◌, ◌∙◌, sym, ap, subst, ℕ, ◌+◌, ◌*◌, ◌≤◌, ◌<◌, length, splice, row_of, Rows, Filled, w16, w32}
use mathlib.Core.List.{map}
use Rattle.rows.proofs.Laws.Pixels.Values.{values-length}
use Rattle.blocks.specs.inner.Ready.{Margins}
use Rattle.blocks.proofs.Laws.Calls.Told.{Told, passed, told_back}
use Rattle.blocks.proofs.Laws.Loops.Shown.{shown_more, shown_turn}
use Rattle.blocks.specs.declared.source.Stand.{Stand}
use Rattle.blocks.specs.declared.warp.Shears.{Shears}

module _ {P : Type 0} {value : P → ℕ} {values : List P → List ℕ} (each : (l : List P) → values l ≡ map value l) where
  -- a row kernel of w columns left row y as the picture has it
  pub shown_row : {s w : ℕ} {f : ℕ → ℕ → ℕ} {d₀ : List P} {h y : ℕ} {d : List P} (r : List P) → Filled s w f (values d₀) h y (values d)
      → 1 ≤ w → Rows (length d₀) s w h → y < h → values r ≡ row_of w (λ i. f i y)
      → Filled s w f (values d₀) h (y + 1) (values (splice d (y * s) (y * s + w) r))
  shown_row {f = f} {y = y} r p w1 b lt e =
      shown_more each r p w1 b lt (e ∙ ap (λ n. row_of n (λ i. f i y)) (sym (shown_turn each p b lt).long))

  pub margins_shown : (src : List P) {s : Stand} → Margins (length src) s → Margins (length (values src)) s
  margins_shown src {s} p = subst (λ n. Margins n s) (sym (values-length each src)) p

-- a block's shears, as a call passes them
pub record Passed (m : Shears) : Type 0 where
  pub a : passed w16 m.a ≡ m.a
  pub b : passed w16 m.b ≡ m.b
  pub c : passed w16 m.c ≡ m.c
  pub d : passed w16 m.d ≡ m.d
  pub mx : passed w32 m.mx ≡ m.mx
  pub my : passed w32 m.my ≡ m.my

pub shears_passed : (m : Shears) {A B C D E F G : Type 0}
    → Told w16 m.a A (Told w16 m.b B (Told w16 m.c C (Told w16 m.d D (Told w32 m.mx E (Told w32 m.my F G))))) → Passed m
shears_passed m t =
    record {
      a = told_back w16 t;
      b = told_back w16 t.1;
      c = told_back w16 t.1.1;
      d = told_back w16 t.1.1.1;
      mx = told_back w32 t.1.1.1.1;
      my = told_back w32 t.1.1.1.1.1;
    }
