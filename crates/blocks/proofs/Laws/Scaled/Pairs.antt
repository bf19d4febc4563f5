-- Scaled blocks by bilinear: the last two filtered rows as they come in and as they are read. Assumes nothing.
use Rattle.blocks.proofs.Usual.{List, ◌≡◌, ◌∙◌, sym, ap, ap₂, ℕ, ◌≤◌, ◌*◌, ◌+◌, ◌-◌, ◌<◌, ◌%◌, mul-le-mul_right, arith, pos, ℤ, ◌+ℤ◌, ◌*ℤ◌, length}
use Rattle.blocks.proofs.Usual.{get_or, at, px, low16, span, splice, row_of, by-lt, row_same, add_parts, eq_of}
use Rattle.rows.specs.Bilinear.{R, bilin}
use Rattle.rows.specs.inner.Bilinear.{bilin_at}
use Rattle.rows.specs.Scaled.{position, pixel_of, sixteenth}
use Rattle.rows.specs.inner.Scaled.{Tabled, PairsFetched}
use Rattle.rows.proofs.Laws.Filters.Bilinear.{weighed}
use Rattle.rows.proofs.Laws.Blocks.Places.{row-at, row-length, splice-before, splice_in, splice-after, splice-length, span-length}
use Rattle.blocks.specs.declared.scaled.ScaledPlan.{ScaledPlan}
use Rattle.blocks.specs.inner.Scaled.{LastTwo, Paired, by_parity, pair_line_of}
use Rattle.blocks.specs.inner.Source.{row_first}
use Rattle.blocks.proofs.Laws.Scaled.Rows.{parity_even, parity_odd}

-- ---- rows come in

pub two_none : (w : ℕ) (line : ℕ → ℕ → ℤ) (rows : List ℤ) → LastTwo w line 0 rows
two_none w line rows = record { stands = λ k i a b c. absurd (omega arith) }

-- row n comes in where the older of two stood
pub two_more : {w n : ℕ} {line : ℕ → ℕ → ℤ} {rows : List ℤ} → LastTwo w line n rows → w ≤ 64 → length rows ≡ 128
    → (r : List ℤ) → r ≡ row_of (length (span rows (n % 2 * 64) (n % 2 * 64 + w))) (line n)
    → (length (splice rows (n % 2 * 64) (n % 2 * 64 + w) r) ≡ 128) × LastTwo w line (n + 1) (splice rows (n % 2 * 64) (n % 2 * 64 + w) r)
two_more {w} {n} {line} {rows} l w64 len r is =
    let q = n % 2 * 64 in
    let p : q + w ≤ length rows = omega arith in
    let long : length r ≡ w = row-length _ (line n) is ∙ span-length (pos 0) rows q (q + w) p ∙ omega arith in
    let fit : q + length r ≡ q + w = omega (arith, long) in (
      splice-length (pos 0) rows q (q + w) r fit p ∙ len,
      record {
        stands = λ k i a b c.
            by-lt k n
            (λ d.
            by-lt (k % 2 * 64 + i) q
            (λ s. splice-before (pos 0) rows q (q + w) r fit p (k % 2 * 64 + i) s ∙ l.stands k i d (omega arith) c)
            λ s. splice-after (pos 0) rows q (q + w) r fit p (k % 2 * 64 + i) (omega arith) ∙ l.stands k i d (omega arith) c)
            λ d.
            let kn : k ≡ n = omega arith in
            ap (λ (m : ℕ). at (splice rows q (q + w) r) m) (omega arith)
            ∙ splice_in (pos 0) rows q (q + w) r fit p i (omega arith)
            ∙ row-at (pos 0) _ (line n) is i (omega (arith, long))
            ∙ ap (λ (m : ℕ). line m i) (sym kn);
      },
    )

-- row k by the tables of the plan's columns: what it reads, and that it is the plan's
module _ {sl w m : ℕ} {p : ScaledPlan} {pixels fractions : List ℕ} (q : Paired sl p w m) (t : Tabled pixels fractions w p.mx p.dx) where
  pub pairs_fetched : (k n : ℕ) → k < m → n ≤ w → PairsFetched sl (row_first p.stand k) pixels fractions n
  pairs_fetched k n b h =
      record {
        held = λ i l. omega (arith, t.pixel i (omega arith), q.fetched k i b (omega arith));
        small = λ i l. omega (arith, t.fraction i (omega arith));
      }

  pub tabled_line : (src : List ℕ) (k n : ℕ) → n ≤ w
      → row_of n (λ i. low16 (R (4 - p.bits) (bilin_at (px src) (row_first p.stand k + get_or pixels i 0) 1 (get_or fractions i 0))))
      ≡ row_of n (pair_line_of src p k)
  unfolding pair_line_of
  tabled_line src k n h =
      row_same (pos 0) n _ _
      λ i b.
      ap₂ (λ (c f : ℕ). low16 (R (4 - p.bits) (bilin_at (px src) (row_first p.stand k + c) 1 f))) (t.pixel i (omega arith))
      (t.fraction i (omega arith))

-- ---- the two that position v is between

-- from the other of two numbers
other_way : (f : ℕ) (a b : ℤ) → f ≤ 16 → bilin a b (16 - f) ≡ bilin b a f
other_way f a b h =
    let x = pos f *ℤ a in let y = pos (16 - f) *ℤ b in
    sym (weighed (16 - f) a b (omega arith))
    ∙ ap (λ (k : ℕ). pos k *ℤ a +ℤ y) (omega arith)
    ∙ eq_of (x +ℤ y) (y +ℤ x) (omega (arith, add_parts x y, add_parts y x))
    ∙ weighed f b a h

pub parity_small : {f : ℕ} (v : ℕ) → f ≡ by_parity v → f ≤ 16
parity_small v is = by-lt (pixel_of v % 2) 1 (λ e. omega (arith, parity_even v (omega arith))) λ e. omega (arith, parity_odd v (λ z. omega arith))

module _ {w : ℕ} {line : ℕ → ℕ → ℤ} {rows : List ℤ} (v : ℕ) (l : LastTwo w line (pixel_of v + 2) rows) where
  stood : (k i p : ℕ) → (pixel_of v ≤ k) × (k < pixel_of v + 2) → i < w → p ≡ k % 2 * 64 + i → at rows p ≡ line k i
  stood k i p a b e = ap (λ (m : ℕ). at rows m) e ∙ l.stands k i a.1 (omega arith) b

  two_between : (i : ℕ) → i < w → bilin_at (at rows) (0 + i) 64 (by_parity v) ≡ bilin (line (pixel_of v) i) (line (pixel_of v + 1) i) (sixteenth v)
  two_between i b =
      let y = pixel_of v in
      by-lt (y % 2) 1
      (λ e.
      rw (← parity_even v (omega arith)) (ap₂ (λ (s t : ℤ). bilin s t (sixteenth v))
      (stood y i (0 + i) (omega arith) b (omega arith)) (stood (y + 1) i (0 + i + 64) (omega arith) b (omega arith))))
      λ e.
      rw (← parity_odd v (λ z. omega arith)) (ap₂ (λ (s t : ℤ). bilin s t (16 - sixteenth v))
      (stood (y + 1) i (0 + i) (omega arith) b (omega arith)) (stood y i (0 + i + 64) (omega arith) b (omega arith)))
      ∙ other_way (sixteenth v) (line (y + 1) i) (line y i) (omega arith)

  -- a row of them
  pub two_row : {A : Type 0} (z : A) (g : ℤ → A) (n : ℕ) → n ≡ w
      → row_of n (λ i. g (bilin_at (at rows) (0 + i) 64 (by_parity v))) ≡ row_of n (λ i. g (bilin (line (pixel_of v) i) (line (pixel_of v + 1) i) (sixteenth v)))
  two_row z g n e = row_same z n _ _ (λ i b. ap g (two_between i (omega arith)))

-- positions never fall
pub position-le : (start step : ℕ) {x y : ℕ} → x ≤ y → position start step x ≤ position start step y
position-le start step h = omega (arith, mul-le-mul_right step h)
