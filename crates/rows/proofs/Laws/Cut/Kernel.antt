-- The cut law of any kernel. Its pixel is a rule on the pixels around a place; moved along, its picture is that of the order that is moved along:
-- so a block cut into rectangles, each predicted by itself, is the block, whenever each rectangle has the block's rule. Assumes nothing.
use Rattle.rows.proofs.Usual.{List, ◌≡◌, ◌∙◌, refl, ap, sym, ◌+◌, ◌≤◌, ◌<◌, ℕ, suc, zero, ltb, pos, ℤ, ◌+ℤ◌, negsuc, length}
use native.Mathlib.Nat.{add_assoc}
use lib.IntN.{neg_ℤ, +ℤ_assoc, +ℤ_comm, pos-+ℤ-pos}
use Rattle.rows.specs.Places.{fill}
use Rattle.rows.specs.Edge.{around_at}
use Rattle.rows.specs.Subpel.{family, axis}
use Rattle.rows.specs.Cut.{Rect, Cut, Each, SameSide, begins, put_each}
use Rattle.rows.proofs.Laws.Cut.Cut.{cut_each, each_map}

-- the place k columns from x, with the margin m before it, where x was moved along by a
place_margin : (x m : ℤ) (a k : ℕ) → ((x +ℤ pos a) +ℤ m) +ℤ pos k ≡ (x +ℤ m) +ℤ pos (a + k)
place_margin x m a k =
    ap (λ (t : ℤ). t +ℤ pos k) (+ℤ_assoc x (pos a) m ∙ ap (λ (t : ℤ). x +ℤ t) (+ℤ_comm (pos a) m) ∙ sym (+ℤ_assoc x m (pos a)))
    ∙ +ℤ_assoc (x +ℤ m) (pos a) (pos k)
    ∙ ap (λ (t : ℤ). (x +ℤ m) +ℤ t) (pos-+ℤ-pos a k)

pub around-moved : (m : ℕ) (g : ℤ → ℤ → ℕ) (x y : ℤ) (rx ry i j a b : ℕ) → around_at m g (x +ℤ pos rx) (y +ℤ pos ry) i j a b ≡ around_at m g x y (rx + i) (ry + j) a b
unfolding around_at
around-moved m g x y rx ry i j a b = rw (place_margin x (neg_ℤ (pos m)) rx (i + a), place_margin y (neg_ℤ (pos m)) ry (j + b), add_assoc rx i a, add_assoc ry j b) refl

-- ---- the side of four: "a side above 4 uses family `type`, a side of 4 or less uses family 3 + (type & 1)"

same_axis : (subpel ext : List ℤ) (type : ℤ) (fraction a b : ℕ) → ltb 4 a ≡ ltb 4 b → axis subpel ext type fraction a ≡ axis subpel ext type fraction b
unfolding axis family
same_axis subpel ext type zero a b e = refl
same_axis subpel ext (negsuc t) (suc f) a b e = refl
same_axis subpel ext (pos t) (suc f) a b e = rw e refl

-- so a rectangle on the block's side of four has the block's filters, by width across and by height down
module _ (subpel ext : List ℤ) (type : ℤ) (fraction w h : ℕ) (r : Rect) (side : SameSide w h r) where
  pub same_across : axis subpel ext type fraction r.w ≡ axis subpel ext type fraction w
  same_across = same_axis subpel ext type fraction r.w w side.width

  pub same_down : axis subpel ext type fraction r.h ≡ axis subpel ext type fraction h
  same_down = same_axis subpel ext type fraction r.h h side.height

-- ---- the cut

module _ {A : Type 0} (z : A) (s : ℕ) (some : 0 < s) (m : ℕ) (g : ℤ → ℤ → ℕ) (x y : ℤ) (K : (ℕ → ℕ → ℕ) → A) (KR : Rect → (ℕ → ℕ → ℕ) → A) where
  moved : (r : Rect) → KR r ≡ K → (i j : ℕ) → KR r (around_at m g (x +ℤ pos r.x) (y +ℤ pos r.y) i j) ≡ K (around_at m g x y (r.x + i) (r.y + j))
  moved r e i j t = e t (λ a b. around-moved m g x y r.x r.y i j a b t)

  -- Demand 3 of any kernel: KR r is the rule of the rectangle r, K the block's
  pub kernel_cut : (w h : ℕ) (rs : List Rect) (d : List A) → Cut w h rs → w ≤ s → Each (λ r. begins s r ≤ length d) rs → Each (λ r. KR r ≡ K) rs
      → put_each s (λ r i j. KR r (around_at m g (x +ℤ pos r.x) (y +ℤ pos r.y) i j)) rs d ≡ fill d s w h (λ i j. K (around_at m g x y i j))
  kernel_cut w h rs d c ws fits e = cut_each z s some _ _ w h rs d c ws fits (each_map _ _ rs (λ r q i j _ _. moved r q i j) e)
