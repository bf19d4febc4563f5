-- Laws of `fill`, a block written into a buffer of rows, and of `fill_in`, the same over any set of places. Assumes nothing.
use Rattle.rows.proofs.Usual.{true, Bool, false, List, ⊎_elim, ◌⊎◌, ◌≡◌, ◌∙◌, refl, ap, sym, subst, ◌+◌, ◌*◌, ◌≤◌, ◌<◌, ℕ, ◌/◌, suc, zero, ◌%◌}
use Rattle.rows.proofs.Usual.{add-zero, arith, ltb-true, ltb, length, get_or, splice, by-lt}
use mathlib.Core.Bool.{◌&&◌, ◌||◌, true≢false}
use mathlib.Core.List.{[], ◌∷◌}
use native.Mathlib.Nat.{zero-add, not-suc-le-zero, le_of_suc-le-suc}
use borrow.Author.Tests.{lt-ltb, le-ltb}
use Rattle.rows.specs.Places.{pick, paint, in_block, fill_in, fill}
use Rattle.rows.proofs.Laws.Blocks.Places.{row-le, col_of, row_of_lem, ext_grid, splice-length, splice-before, splice_in, splice-after}

module _ {A : Type 0} where
  pub length-paint : (k : ℕ) (g : ℕ → A → A) (d : List A) → length (paint k g d) ≡ length d
  unfolding paint
  length-paint k g [] = refl
  length-paint k g (x ∷ xs) = ap suc (length-paint (suc k) g xs)

  pub get_d_paint : (z : A) (k : ℕ) (g : ℕ → A → A) (d : List A) (p : ℕ) → p < length d → get_or (paint k g d) p z ≡ g (k + p) (get_or d p z)
  unfolding paint
  get_d_paint z k g [] p h = absurd (not-suc-le-zero h)
  get_d_paint z k g (x ∷ xs) zero h = ap (λ (n : ℕ). g n x) (sym (add-zero k))
  get_d_paint z k g (x ∷ xs) (suc p) h = get_d_paint z (suc k) g xs p (le_of_suc-le-suc h) ∙ ap (λ (n : ℕ). g n (get_or xs p z)) (omega arith)

-- ---- sets of columns and rows

pub and_false : (a : Bool) → a && false ≡ false
and_false true = refl
and_false false = refl

pub and_true : (a b : Bool) → a && b ≡ true → (a ≡ true) × (b ≡ true)
and_true true b e = (refl, e)
and_true false b e = absurd (true≢false (sym e))

pub in_block_in : (w h i j : ℕ) → i < w → j < h → in_block w h i j ≡ true
unfolding in_block
in_block_in w h i j a b = rw (lt-ltb i w a, lt-ltb j h b) refl

pub in_block_col : (w h i j : ℕ) → w ≤ i → in_block w h i j ≡ false
unfolding in_block
in_block_col w h i j a = rw (le-ltb i w a) refl

pub in_block-row : (w h i j : ℕ) → h ≤ j → in_block w h i j ≡ false
unfolding in_block
in_block-row w h i j b = rw (le-ltb j h b) (and_false (ltb i w))

pub in_block_true : (w h i j : ℕ) → in_block w h i j ≡ true → (i < w) × (j < h)
unfolding in_block
in_block_true w h i j e = let p = and_true (ltb i w) (ltb j h) e in (ltb-true i w p.0, ltb-true j h p.1)

pub in_block_more : (w h i j : ℕ) → j < h → in_block w h i j ≡ in_block w (h + 1) i j
unfolding in_block
in_block_more w h i j k = rw (lt-ltb j h k, lt-ltb j (h + 1) (omega arith)) refl

-- ---- the block

module _ {A : Type 0} where
  pub length-fill_in : (d : List A) (s : ℕ) (R : ℕ → ℕ → Bool) (f : ℕ → ℕ → A) → length (fill_in d s R f) ≡ length d
  unfolding fill_in
  length-fill_in d s R f = length-paint 0 _ d

  pub length-fill : (d : List A) (s w h : ℕ) (f : ℕ → ℕ → A) → length (fill d s w h f) ≡ length d
  unfolding fill
  length-fill d s w h f = length-fill_in d s (in_block w h) f

module _ {A : Type 0} (z : A) (s : ℕ) where
  -- what stands at column i of row j
  pub fill_in-at : (d : List A) (R : ℕ → ℕ → Bool) (f : ℕ → ℕ → A) (i j : ℕ) → i < s → j * s + i < length d
      → get_or (fill_in d s R f) (j * s + i) z ≡ pick (R i j) (f i j) (get_or d (j * s + i) z)
  unfolding fill_in
  fill_in-at d R f i j b h =
      get_d_paint z 0 (λ p v. pick (R (p % s) (p / s)) (f (p % s) (p / s)) v) d (j * s + i) h ∙ rw (zero-add (j * s + i), col_of s i j b, row_of_lem s i j b) refl

  -- inside the block
  pub fill_in_lem : (d : List A) (w h : ℕ) (f : ℕ → ℕ → A) (i j : ℕ) → w ≤ s → i < w → j < h → j * s + i < length d → get_or (fill d s w h f) (j * s + i) z ≡ f i j
  unfolding fill
  fill_in_lem d w h f i j ws a b k = fill_in-at d (in_block w h) f i j (omega arith) k ∙ rw (in_block_in w h i j a b) refl

  -- outside it: right of its columns or below its rows
  pub fill_out : (d : List A) (w h : ℕ) (f : ℕ → ℕ → A) (i j : ℕ) → i < s → (w ≤ i) ⊎ (h ≤ j) → j * s + i < length d → get_or (fill d s w h f) (j * s + i) z ≡ get_or d (j * s + i) z
  unfolding fill
  fill_out d w h f i j b o k =
      fill_in-at d (in_block w h) f i j b k ∙ ap (λ (t : Bool). pick t (f i j) (get_or d (j * s + i) z)) (⊎_elim (λ q. in_block_col w h i j q) (λ q. in_block-row w h i j q) o)

  module _ (pos : 0 < s) where
    -- two lists as long, of which the second is told by column and row
    pub fill_in-is : (d : List A) (R : ℕ → ℕ → Bool) (f : ℕ → ℕ → A) (e : List A) → length e ≡ length d
        → ((i j : ℕ) → i < s → j * s + i < length d → get_or e (j * s + i) z ≡ pick (R i j) (f i j) (get_or d (j * s + i) z)) → e ≡ fill_in d s R f
    fill_in-is d R f e l same =
        ext_grid z s pos e (fill_in d s R f) (l ∙ sym (length-fill_in d s R f)) λ i j b h.
        let k : j * s + i < length d = subst (λ (n : ℕ). j * s + i < n) l h in same i j b k ∙ sym (fill_in-at d R f i j b k)

    -- the block depends on its set and its values at places of the buffer alone
    pub fill_in-ext : (d : List A) (R R' : ℕ → ℕ → Bool) (f f' : ℕ → ℕ → A)
        → ((i j : ℕ) → i < s → j * s + i < length d → (v : A) → pick (R i j) (f i j) v ≡ pick (R' i j) (f' i j) v) → fill_in d s R f ≡ fill_in d s R' f'
    fill_in-ext d R R' f f' same =
        fill_in-is d R' f' (fill_in d s R f) (length-fill_in d s R f) λ i j b h. fill_in-at d R f i j b h ∙ same i j b h (get_or d (j * s + i) z)

    -- one block over another
    pub fill_in-fill_in : (d : List A) (R R' : ℕ → ℕ → Bool) (f f' : ℕ → ℕ → A)
        → fill_in (fill_in d s R f) s R' f' ≡ fill_in d s (λ i j. R i j || R' i j) (λ i j. pick (R' i j) (f' i j) (f i j))
    fill_in-fill_in d R R' f f' =
        fill_in-is d (λ i j. R i j || R' i j) (λ i j. pick (R' i j) (f' i j) (f i j)) (fill_in (fill_in d s R f) s R' f')
        (length-fill_in (fill_in d s R f) s R' f' ∙ length-fill_in d s R f) λ i j b h.
        fill_in-at (fill_in d s R f) R' f' i j b (subst (λ (n : ℕ). j * s + i < n) (sym (length-fill_in d s R f)) h)
        ∙ ap (λ (v : A). pick (R' i j) (f' i j) v) (fill_in-at d R f i j b h)
        ∙ over (R i j) (R' i j) (f i j) (f' i j) (get_or d (j * s + i) z) where
          over : (r r' : Bool) (a a' v : A) → pick r' a' (pick r a v) ≡ pick (r || r') (pick r' a' a) v
          over true true a a' v = refl
          over true false a a' v = refl
          over false true a a' v = refl
          over false false a a' v = refl

    -- two blocks of one picture are the picture over both sets
    pub fill_in_join : (d : List A) (R R' : ℕ → ℕ → Bool) (f : ℕ → ℕ → A) → fill_in (fill_in d s R f) s R' f ≡ fill_in d s (λ i j. R i j || R' i j) f
    fill_in_join d R R' f =
        fill_in-fill_in d R R' f f ∙ fill_in-ext d (λ i j. R i j || R' i j) (λ i j. R i j || R' i j) (λ i j. pick (R' i j) (f i j) (f i j)) f λ i j b h v. ap (λ (a : A). pick (R i j || R' i j) a v) (same (R' i j) (f i j)) where
          same : (r : Bool) (a : A) → pick r a a ≡ a
          same true a = refl
          same false a = refl

    -- the block depends on its values inside alone
    pub fill_same : (d : List A) (w h : ℕ) (f g : ℕ → ℕ → A) → ((i j : ℕ) → i < w → j < h → f i j ≡ g i j) → fill d s w h f ≡ fill d s w h g
    unfolding fill
    fill_same d w h f g same =
        fill_in-ext d (in_block w h) (in_block w h) f g λ i j b k v. at (in_block w h i j) (f i j) (g i j) v (λ e. let p = in_block_true w h i j e in same i j p.0 p.1) where
          at : (t : Bool) (a b v : A) → (t ≡ true → a ≡ b) → pick t a v ≡ pick t b v
          at true a b v e = e refl
          at false a b v e = refl

    -- ---- the loop over rows

    -- no row yet
    pub fill_none : (d : List A) (w : ℕ) (f : ℕ → ℕ → A) → d ≡ fill d s w 0 f
    unfolding fill in_block
    fill_none d w f = fill_in-is d (in_block w 0) f d refl λ i j b h. rw (le-ltb j 0 (omega arith)) (out (ltb i w) (f i j) (get_or d (j * s + i) z)) where
      out : (r : Bool) (a v : A) → v ≡ pick (r && false) a v
      out true a v = refl
      out false a v = refl

    -- one row more, as a loan of `&mut d[y * s..y * s + w]` leaves it
    pub fill_more : (d : List A) (w y : ℕ) (f : ℕ → ℕ → A) (r : List A) → w ≤ s → y * s + w ≤ length d → length r ≡ w
        → ((i : ℕ) → i < w → get_or r i z ≡ f i y) → splice (fill d s w y f) (y * s) (y * s + w) r ≡ fill d s w (y + 1) f
    unfolding fill
    fill_more d w y f r ws fits l row =
        fill_in-is d (in_block w (y + 1)) f (splice (fill d s w y f) (y * s) (y * s + w) r) (splice-length z (fill d s w y f) (y * s) (y * s + w) r long fit ∙ length-fill d s w y f) at where
          long : y * s + length r ≡ y * s + w
          long = omega arith

          fit : y * s + w ≤ length (fill d s w y f)
          fit = rw (length-fill d s w y f) fits

          same : (i j : ℕ) → i < s → j * s + i < length d → in_block w y i j ≡ in_block w (y + 1) i j → get_or (fill d s w y f) (j * s + i) z ≡ pick (in_block w (y + 1) i j) (f i j) (get_or d (j * s + i) z)
          same i j b h e = fill_in-at d (in_block w y) f i j b h ∙ ap (λ (t : Bool). pick t (f i j) (get_or d (j * s + i) z)) e

          on : (i j : ℕ) → j ≡ y → i < w → get_or (splice (fill d s w y f) (y * s) (y * s + w) r) (j * s + i) z ≡ pick (in_block w (y + 1) i j) (f i j) (get_or d (j * s + i) z)
          on i j e b =
              rw (e, in_block_in w (y + 1) i y b (omega arith)) (splice_in z (fill d s w y f) (y * s) (y * s + w) r long fit i (omega arith) ∙ row i b)

          past : (i j : ℕ) → i < s → j * s + i < length d → y * s + w ≤ j * s + i → in_block w y i j ≡ in_block w (y + 1) i j → get_or (splice (fill d s w y f) (y * s) (y * s + w) r) (j * s + i) z ≡ pick (in_block w (y + 1) i j) (f i j) (get_or d (j * s + i) z)
          past i j b h k e = splice-after z (fill d s w y f) (y * s) (y * s + w) r long fit (j * s + i) k ∙ same i j b h e

          at : (i j : ℕ) → i < s → j * s + i < length d → get_or (splice (fill d s w y f) (y * s) (y * s + w) r) (j * s + i) z ≡ pick (in_block w (y + 1) i j) (f i j) (get_or d (j * s + i) z)
          at i j b h =
              by-lt j y
              (λ jy. splice-before z (fill d s w y f) (y * s) (y * s + w) r long fit (j * s + i) (omega (arith, row-le s jy)) ∙ same i j b h (in_block_more w y i j jy))
              λ yj. by-lt y j
              (λ jy. past i j b h (omega (arith, row-le s jy)) (in_block-row w y i j yj ∙ sym (in_block-row w (y + 1) i j (omega arith))))
              λ jy. by-lt i w
              (λ iw. on i j (omega arith) iw)
              λ wi. past i j b h (let e : j ≡ y = omega arith in rw e (omega arith)) (in_block_col w y i j wi ∙ sym (in_block_col w (y + 1) i j wi))
