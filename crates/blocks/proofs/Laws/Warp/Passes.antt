-- Warp's two passes: a whole row more in a block, the columns of the first pass, and the second pass over the first. Assumes nothing.
use Rattle.blocks.proofs.Usual.{List, ◌≡◌, ◌∙◌, sym, ap, ℕ, ◌≤◌, ◌*◌, ◌+◌, ◌-◌, ◌<◌, arith, pos, ℤ, length, get_or, at, clip, minus16, px, low16, splice}
use Rattle.blocks.proofs.Usual.{fill, row_of, mul-le-mul_right, Rows, fill_same, fill_in_lem, Filled, filled_more, Turn, turn, filled_span}
use Rattle.rows.specs.Warp.{warped, warp_mid, warp_put, warp_prep}
use Rattle.rows.proofs.Laws.Filters.Taps.{tapped_same}
use Rattle.blocks.specs.inner.Ready.{Margins}
use Rattle.blocks.specs.inner.Source.{row_first, corner_of, pixel_in, around_in}
use Rattle.blocks.specs.inner.Warp.{first_in}
use Rattle.blocks.specs.declared.source.Stand.{Stand}

-- a row kernel of w columns left row y as the picture has it
pub filled_row : {A : Type 0} (z : A) {s w : ℕ} {f : ℕ → ℕ → A} {d₀ : List A} {h y : ℕ} {d : List A} (r : List A) → Filled s w f d₀ h y d
    → 1 ≤ w → Rows (length d₀) s w h → y < h → r ≡ row_of w (λ i. f i y) → Filled s w f d₀ h (y + 1) (splice d (y * s) (y * s + w) r)
filled_row z {f = f} {y = y} r p w1 b lt e = filled_more z r p w1 b lt (e ∙ ap (λ (n : ℕ). row_of n (λ i. f i y)) (sym (filled_span z p b lt)))

-- ---- the first pass: eight columns of fifteen, without gaps, of which x are written
-- what it writes at row r of column i; the first tap of the first stands at place o
abbrev pub first : (B : ℕ) → List ℤ → (m a b : ℤ) → List ℕ → (o s : ℕ) → ℕ → ℕ → ℤ
first B table m a b src o s r i = low16 (warped table m a b (7 - B) r i (λ u. px src (o + i + r * s + u)))

module _ {f : ℕ → ℕ → ℤ} {mid₀ mid : List ℤ} {x : ℕ} (p : Filled 15 15 f mid₀ 8 x mid) (long : length mid₀ ≡ 120) (lt : x < 8) where
  columns : Rows (length mid₀) 15 15 8
  columns = record { wide = omega arith; most = omega arith; fits = omega arith }

  -- in a turn, column x has its part
  pub column-part : Turn 15 15 x mid
  column-part = turn (pos 0) p columns lt

  pub column_more : (r : List ℤ) → r ≡ row_of 15 (λ i. f i x) → Filled 15 15 f mid₀ 8 (x + 1) (splice mid (x * 15) (x * 15 + 15) r)
  column_more r e = filled_row (pos 0) r p (omega arith) columns lt e

warped_same : (table : List ℤ) (m a b : ℤ) (n r c : ℕ) (x y : ℕ → ℤ) → ((t : ℕ) → t < 8 → x t ≡ y t) → warped table m a b n r c x ≡ warped table m a b n r c y
unfolding warped
warped_same table m a b n r c x y e = tapped_same _ _ n x y e

-- ---- the first pass, wherever the rows stand
-- the fifteen rows of a copy in the picture's order
pub fifteen_rows : {l : ℕ} → l ≡ 225 → Rows l 15 15 15
fifteen_rows e = record { wide = omega arith; most = omega arith; fits = omega arith }

module _ {l : ℕ} {s : Stand} (p : Margins l s) where
  -- from the first tap of a block with its margins on
  pub taps_in : s.back ≡ 0 → (corner_of s).off + 14 * s.forth + 15 ≤ l
  taps_in none = omega (arith, p)

  -- as the pixels around the block
  corner_at : (src : List ℕ) (i r u : ℕ) → r < 15 → pixel_in src (corner_of s) (i + u) r ≡ around_in 3 src s i 0 u r
  unfolding around_in row_first
  corner_at src i r u h =
      let m = mul-le-mul_right {m = r} {n = 14} s.back (omega arith) in
      ap (λ (k : ℕ). get_or src k 0) (omega (arith, p, m))

module _ (B : ℕ) (table : List ℤ) (m a b : ℤ) (src : List ℕ) (s : Stand) (p : Margins (length src) s) (mid : List ℤ) where
  pub first_straight : s.back ≡ 0 → fill mid 15 15 8 (first B table m a b src (corner_of s).off s.forth) ≡ fill mid 15 15 8 (first_in B table m a b src s)
  unfolding row_first
  first_straight none =
      fill_same (pos 0) 15 (omega arith) mid 15 8 _ _ λ r i hr hi.
      ap low16 (warped_same table m a b (7 - B) r i _ _ λ u hu.
      ap (λ (k : ℕ). pos (get_or src k 0)) (omega (arith, ap (λ (k : ℕ). r * k) none)) ∙ ap pos (corner_at p src i r u hr))

  pub first_turned : (rows₀ rows : List ℕ) → length rows₀ ≡ 225 → rows ≡ fill rows₀ 15 15 15 (pixel_in src (corner_of s))
      → fill mid 15 15 8 (first B table m a b rows 0 15) ≡ fill mid 15 15 8 (first_in B table m a b src s)
  first_turned rows₀ rows long is =
      fill_same (pos 0) 15 (omega arith) mid 15 8 _ _ λ r i hr hi.
      ap low16 (warped_same table m a b (7 - B) r i _ _ λ u hu.
      ap (px rows) (omega arith) ∙ ap (λ (l : List ℕ). px l (r * 15 + (i + u))) is
      ∙ ap pos (fill_in_lem 0 15 rows₀ 15 15 _ (i + u) r (omega arith) (omega arith) hr (omega arith) ∙ corner_at p src i r u hr))

-- ---- the second pass over the first
module _ (B : ℕ) (table : List ℤ) (mx a b : ℤ) (src : List ℕ) (s : Stand) where
  first-is : (i j v : ℕ) → first_in B table mx a b src s (j + v) i ≡ warp_mid B table mx a b i j (around_in 3 src s i j) v
  unfolding warp_mid around_in
  first-is i j v = ap low16 (warped_same table mx a b (7 - B) (j + v) i _ _ λ u h. ap (λ (k : ℕ). pos (get_or src k 0)) (omega arith))

  module _ (mid₀ mid : List ℤ) (long : length mid₀ ≡ 120) (is : mid ≡ fill mid₀ 15 15 8 (first_in B table mx a b src s)) where
    mid_at : (i j v : ℕ) → i < 8 → j < 8 → v < 8 → at mid (j + i * 15 + v) ≡ warp_mid B table mx a b i j (around_in 3 src s i j) v
    mid_at i j v hi hj hv =
        let e : j + i * 15 + v ≡ i * 15 + (j + v) = omega arith in
        ap (at mid) e
        ∙ ap (λ (l : List ℤ). at l (i * 15 + (j + v))) is
        ∙ fill_in_lem (pos 0) 15 mid₀ 15 8 _ (j + v) i (omega arith) (omega arith) hi (omega arith)
        ∙ first-is i j v

    module _ (my c d : ℤ) (n i j : ℕ) (hi : i < 8) (hj : j < 8) where
      second : warped table my c d n j i (λ v. at mid (j + i * 15 + v)) ≡ warped table my c d n j i (warp_mid B table mx a b i j (around_in 3 src s i j))
      second = warped_same table my c d n j i _ _ λ v hv. mid_at i j v hi hj hv

    pub put_second : (M : ℕ) (my c d : ℤ) (dst : List ℕ) (ds : ℕ) → 0 < ds
        → fill dst ds 8 8 (λ i j. clip M (low16 (warped table my c d (7 + B) j i (λ v. at mid (j + i * 15 + v)))))
        ≡ fill dst ds 8 8 (λ i j. warp_put M B table mx my a b c d i j (around_in 3 src s i j))
    unfolding warp_put
    put_second M my c d dst ds h = fill_same 0 ds h dst 8 8 _ _ λ i j hi hj. ap (λ (z : ℤ). clip M (low16 z)) (second my c d (7 + B) i j hi hj)

    pub prep-second : (P : ℕ) (my c d : ℤ) (tmp : List ℤ) (ts : ℕ) → 0 < ts
        → fill tmp ts 8 8 (λ i j. minus16 (low16 (warped table my c d 7 j i (λ v. at mid (j + i * 15 + v)))) (pos P))
        ≡ fill tmp ts 8 8 (λ i j. warp_prep B P table mx my a b c d i j (around_in 3 src s i j))
    unfolding warp_prep
    prep-second P my c d tmp ts h = fill_same (pos 0) ts h tmp 8 8 _ _ λ i j hi hj. ap (λ (z : ℤ). minus16 (low16 z) (pos P)) (second my c d 7 i j hi hj)
