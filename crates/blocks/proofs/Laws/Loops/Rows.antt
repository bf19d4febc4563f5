-- Where a loop over the rows of a block stands: the first y of h rows of d₀ are filled by the picture f. Assumes nothing.
use Rattle.rows.proofs.Usual.{List, ◌≡◌, ◌∙◌, refl, ap, ◌-◌, ◌+◌, ◌*◌, ◌≤◌, ◌<◌, ℕ, arith, rules, length, get_or, span, splice, row_of, span-length}
use Rattle.rows.specs.Places.{fill}
use Rattle.rows.proofs.Laws.Blocks.Places.{length-row_of, get_d_row_of, row_fits}
use Rattle.rows.proofs.Laws.Blocks.Fill.{fill_none, fill_more, length-fill}
use Rattle.blocks.specs.inner.Ready.{Rows}

module _ {A : Type 0} where
  pub record Filled (s w : ℕ) (f : ℕ → ℕ → A) (d₀ : List A) (h y : ℕ) (d : List A) : Type 0 where
    pub le : y ≤ h
    pub is : d ≡ fill d₀ s w y f
    pub len : length d ≡ length d₀

  pub filled_none : (z : A) (s w : ℕ) (f : ℕ → ℕ → A) (d : List A) (h : ℕ) → 0 < s → Filled s w f d h 0 d
  filled_none z s w f d h p = record { le = omega arith; is = fill_none z s p d w f; len = refl }

  -- row y was lent as `&mut d[y * s..y * s + w]`, and a row kernel left it as the picture has it
  pub filled_more : (z : A) {s w : ℕ} {f : ℕ → ℕ → A} {d₀ : List A} {h y : ℕ} {d : List A} (r : List A) → Filled s w f d₀ h y d
      → 1 ≤ w → Rows (length d₀) s w h → y < h → r ≡ row_of (length (span d (y * s) (y * s + w))) (λ i. f i y)
      → Filled s w f d₀ h (y + 1) (splice d (y * s) (y * s + w) r)
  filled_more z {s} {w} {f} {d₀} {h} {y} {d} r p w1 b lt e =
      let k : y * s + w ≤ length d₀ = row_fits (length d₀) s w h y b.fits lt in
      let n : length (span d (y * s) (y * s + w)) ≡ w = span-length z d (y * s) (y * s + w) (omega (arith, p)) ∙ omega arith in
      let q : r ≡ row_of w (λ i. f i y) = e ∙ ap (λ (m : ℕ). row_of m (λ i. f i y)) n in
      let i : splice d (y * s) (y * s + w) r ≡ fill d₀ s w (y + 1) f =
      ap (λ (l : List A). splice l (y * s) (y * s + w) r) p.is
      ∙ fill_more z s (omega (arith, b)) d₀ w y f r b.wide k (ap length q ∙ length-row_of w (λ i. f i y)) (λ i b. ap (λ (l : List A). get_or l i z) q ∙ get_d_row_of z w (λ i. f i y) i b) in
      record { le = omega arith; is = i; len = ap length i ∙ length-fill d₀ s w (y + 1) f }

  pub filled_all : {s w : ℕ} {f : ℕ → ℕ → A} {d₀ : List A} {h y : ℕ} {d : List A} → Filled s w f d₀ h y d → h ≤ y → d ≡ fill d₀ s w h f
  filled_all {s} {w} {f} {d₀} p q = p.is ∙ ap (λ (n : ℕ). fill d₀ s w n f) (omega (arith, p))

  -- the row's part is as long as the row
  pub filled_span : (z : A) {s w : ℕ} {f : ℕ → ℕ → A} {d₀ : List A} {h y : ℕ} {d : List A} → Filled s w f d₀ h y d → Rows (length d₀) s w h → y < h → length (span d (y * s) (y * s + w)) ≡ w
  filled_span z {s} {w} {f} {d₀} {h} {y} {d} p b lt =
      let k : y * s + w ≤ length d₀ = row_fits (length d₀) s w h y b.fits lt in
      span-length z d (y * s) (y * s + w) (omega (arith, p)) ∙ omega arith

module _ {A : Type 0} where
  -- in a turn at row y, the row is within the buffer as it stands, and the part lent is as long as the row
  pub record Turn (s w y : ℕ) (d : List A) : Type 0 where
    pub room : y * s + w ≤ length d
    pub long : length (span d (y * s) (y * s + w)) ≡ w

  pub turn : (z : A) {s w : ℕ} {f : ℕ → ℕ → A} {d₀ : List A} {h y : ℕ} {d : List A} → Filled s w f d₀ h y d → Rows (length d₀) s w h → y < h → Turn s w y d
  turn z {s} {w} {f} {d₀} {h} {y} p b lt = record { room = omega (arith, row_fits (length d₀) s w h y b.fits lt, p); long = filled_span z p b lt }

-- in a turn at row y, the row is within a buffer that is read
pub row_in : {l s w h : ℕ} (y : ℕ) → Rows l s w h → y < h → y * s + w ≤ l
row_in {l} {s} {w} {h} y r lt = row_fits l s w h y r.fits lt

pub ruleset block-loop = (filled_none, filled_all, filled_more, turn, row_in, rules)
