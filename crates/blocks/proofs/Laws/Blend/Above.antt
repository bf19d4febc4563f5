-- The search for a mask's value above 64: where it ends, as a number of places and as a row and a column; it ends after all places exactly where the test
-- of number 7 is met. Assumes nothing.
use Rattle.blocks.proofs.Usual.{true, Bool, false, List, ◌≡◌, ◌∙◌, refl, sym, subst, ℕ, ◌≤◌, ◌*◌, ◌+◌, ◌-◌, ◌<◌, suc, zero, ◌/◌, ◌%◌, mul_comm}
use Rattle.blocks.proofs.Usual.{arith, leb-true, le-leb, lt-leb, eqb-true, lt-ltb, le-ltb, ltb-true, leb, ltb, eqb, get_or, pixel, by-lt}
use borrow.Author.Tests.{eq-eqb, ltb-false}
use native.Mathlib.Nat.{add-zero, zero-add, zero-mul, not-suc-le-zero, le_of_suc-le-suc, mod-lt, div-add-mod', div-lt_iff_lt-mul}
use Rattle.std.specs.Prelude.{Option, Some, None}
use Rattle.rows.specs.Places.{pick}
use Rattle.rows.specs.inner.Combine.{AtMost}
use Rattle.rows.proofs.Laws.Blocks.Places.{row-le, col_of, row_of_lem}
use Rattle.blocks.specs.Blend.{first_above, none_above, spot_at}
use Rattle.blocks.specs.inner.Blend.{found_at}
use Rattle.blocks.specs.declared.blend.Spot.{Spot}
use Rattle.blocks.proofs.Laws.Warp.Corners.{every-at, all_every, same_test}

-- ---- values that are at most m: one more, a larger bound, a part of those from the start, and those after them too
module _ (m : ℕ) (l : List ℕ) where
  pub at-most-none : (q : ℕ) → AtMost m l q 0
  at-most-none q i h = absurd (not-suc-le-zero h)

  pub at-most_more : (q n : ℕ) → AtMost m l q n → get_or l (q + n) 0 ≤ m → AtMost m l q (n + 1)
  at-most_more q n h e i b = by-lt i n (λ lt. h i lt) λ le. subst (λ (p : ℕ). get_or l p 0 ≤ m) (omega arith) e

  pub at-most_wider : (m' q n : ℕ) → m ≤ m' → AtMost m l q n → AtMost m' l q n
  at-most_wider m' q n w h i b = omega (arith, h i b)

  pub at-most-part : (p n k : ℕ) → p + n ≤ k → AtMost m l 0 k → AtMost m l p n
  at-most-part p n k w h i b = subst (λ (t : ℕ). get_or l t 0 ≤ m) (omega arith) (h (p + i) (omega arith))

  pub at-most_join : (p n : ℕ) → AtMost m l 0 p → AtMost m l p n → AtMost m l 0 (p + n)
  at-most_join p n a b i c = by-lt i p (λ lt. a i lt) λ le. subst (λ (t : ℕ). get_or l t 0 ≤ m) (omega arith) (b (i - p) (omega arith))

-- ---- an answer that is Some at a place below n, and None elsewhere
some_here : (w p n : ℕ) {s : Spot} (t : Bool) → ltb p n ≡ t → Some s ≡ pick t (Some (spot_at w p)) None → (p < n) × (s ≡ spot_at w p)
some_here w p n true b e = (ltb-true p n b, cc)
some_here w p n false b e = cc

none_here : (w p n : ℕ) (t : Bool) → ltb p n ≡ t → None ≡ pick t (Some (spot_at w p)) None → n ≤ p
none_here w p n true b e = cc
none_here w p n false b e = ltb-false p n b

module _ (mask : List ℕ) where
  -- ---- where the search ends: after n places, or at the first above 64
  first_of : (k n : ℕ) → AtMost 64 mask k (suc n) → leb (get_or mask k 0) 64 ≡ true
  first_of k n h = le-leb (get_or mask k 0) 64 (subst (λ (p : ℕ). get_or mask p 0 ≤ 64) (add-zero k) (h 0 (omega arith)))

  rest_of : (k n : ℕ) → AtMost 64 mask k (suc n) → AtMost 64 mask (suc k) n
  rest_of k n h i b = subst (λ (p : ℕ). get_or mask p 0 ≤ 64) (omega arith) (h (suc i) (omega arith))

  pub first-none : (k n : ℕ) → AtMost 64 mask k n → first_above mask k n ≡ k + n
  unfolding first_above
  first-none k zero h = sym (add-zero k)
  first-none k (suc n) h = rw (first_of k n h) (first-none (suc k) n (rest_of k n h) ∙ omega arith)

  pub first_found : (k n p : ℕ) → AtMost 64 mask k p → p < n → 64 < get_or mask (k + p) 0 → first_above mask k n ≡ k + p
  unfolding first_above
  first_found k zero p h b a = absurd (not-suc-le-zero b)
  first_found k (suc n) zero h b a = rw (lt-leb (get_or mask k 0) 64 (subst (λ (t : ℕ). 64 < get_or mask t 0) (add-zero k) a)) (sym (add-zero k))
  first_found k (suc n) (suc p) h b a =
      rw (first_of k p h)
      (first_found (suc k) n p (rest_of k p h) (le_of_suc-le-suc b) (subst (λ (t : ℕ). 64 < get_or mask t 0) (omega arith) a) ∙ omega arith)

  -- and where it ends after n places, none of them is above 64
  all_of : (k n : ℕ) (t : Bool) → leb (get_or mask k 0) 64 ≡ t → k + suc n ≤ pick t (first_above mask (suc k) n) k
      → (suc k + n ≤ first_above mask (suc k) n → AtMost 64 mask (suc k) n) → AtMost 64 mask k (suc n)
  all_of k n true q e rest zero b = rw (add-zero k) (leb-true (get_or mask k 0) 64 q)
  all_of k n true q e rest (suc i) b = subst (λ (p : ℕ). get_or mask p 0 ≤ 64) (omega arith) (rest (omega arith) i (le_of_suc-le-suc b))
  all_of k n false q e rest i b = absurd (omega arith)

  pub first_all : (k n : ℕ) → k + n ≤ first_above mask k n → AtMost 64 mask k n
  unfolding first_above
  first_all k zero e = at-most-none 64 mask k
  first_all k (suc n) e = all_of k n (leb (get_or mask k 0) 64) refl e (first_all (suc k) n)

  -- ---- the same in a block of w columns and h rows
  module _ (w h : ℕ) where
    abbrev ended : Option Spot
    ended = found_at w h (first_above mask 0 (w * h))

    pub spot_found : (row col : ℕ) → AtMost 64 mask 0 (row * w + col) → row < h → col < w → 64 < get_or mask (row * w + col) 0
        → Some (record { row = row; col = col }) ≡ ended
    spot_found row col m r c a =
        let b : row * w + col < w * h = omega (arith, row-le w r, mul_comm w h) in
        let z = zero-add (row * w + col) in
        let e : first_above mask 0 (w * h) ≡ row * w + col = first_found 0 (w * h) (row * w + col) m b (rw z a) ∙ z in
        rw (e, lt-ltb (row * w + col) (w * h) b, col_of w col row c, row_of_lem w col row c) refl

    pub spot_none : AtMost 64 mask 0 (w * h) → None ≡ ended
    spot_none m = rw (first-none 0 (w * h) m ∙ zero-add (w * h), le-ltb (w * h) (w * h) (omega arith)) refl

    -- and what the search's answer says of the place where it ends
    pub found_spot : {s : Spot} → Some s ≡ ended → (first_above mask 0 (w * h) < w * h) × (s ≡ spot_at w (first_above mask 0 (w * h)))
    found_spot e = some_here w (first_above mask 0 (w * h)) (w * h) (ltb (first_above mask 0 (w * h)) (w * h)) refl e

    pub found_none : None ≡ ended → AtMost 64 mask 0 (w * h)
    found_none e =
        first_all 0 (w * h)
        (omega (arith, none_here w (first_above mask 0 (w * h)) (w * h) (ltb (first_above mask 0 (w * h)) (w * h)) refl e))

    -- ---- "a mask value above 64": the test of number 7 is met exactly where the search ends after w x h places
    pub none-at-most : none_above mask w h ≡ true → AtMost 64 mask 0 (w * h)
    unfolding none_above
    none-at-most e p b =
        let w1 : 0 < w = by-lt 0 w (λ lt. lt) λ le. let z : w ≡ 0 = omega arith in absurd (not-suc-le-zero (rw (z, zero-mul h) at b)) in
        let row : p / w < h = (div-lt_iff_lt-mul w1).1 (omega (arith, mul_comm w h)) in
        let t = every-at w (λ i. leb (pixel mask w i (p / w)) 64) (every-at h _ e (p / w) row) (p % w) (mod-lt p w1) in
        subst (λ (n : ℕ). get_or mask n 0 ≤ 64) (div-add-mod' p w ∙ sym (zero-add p)) (leb-true _ 64 t)

    pub at-most_met : AtMost 64 mask 0 (w * h) → none_above mask w h ≡ true
    unfolding none_above
    at-most_met m =
        all_every h _ λ j q. all_every w _ λ i p.
        le-leb _ 64 (subst (λ (n : ℕ). get_or mask n 0 ≤ 64) (zero-add (j * w + i)) (m (j * w + i) (omega (arith, row-le w q, mul_comm w h))))

    pub none_is : none_above mask w h ≡ eqb (first_above mask 0 (w * h)) (w * h)
    none_is =
        let n = w * h in let f = first_above mask 0 n in
        same_test (none_above mask w h) (eqb f n) (λ e. eq-eqb f n (first-none 0 n (none-at-most e) ∙ zero-add n))
        λ e. at-most_met (first_all 0 n (omega (arith, eqb-true f n e)))

-- the rows of a mask without gaps
pub at-most-row : (m : ℕ) (mask : List ℕ) {w h y n : ℕ} → AtMost m mask 0 (w * h) → y < h → n ≡ w → AtMost m mask (y * w) n
at-most-row m mask {w} {h} {y} {n} a lt e = at-most-part m mask (y * w) n (w * h) (omega (arith, row-le w lt, mul_comm w h)) a
