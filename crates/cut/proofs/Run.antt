-- Calls that predict a block tile by tile: what some of them cover, and what all of them leave. Assumes nothing.
use mathlib.Core.Path.{◌≡◌, refl, sym, ap, ◌∙◌, subst}
use mathlib.Core.Logic.{◌⊎◌, inl, inr, ⊎_elim}
use mathlib.Core.Bool.{Bool, true, false, ◌||◌, true≢false}
use mathlib.Core.List.{List, [], ◌∷◌, ◌++◌}
use Prim.Native.Nat.{ℕ, ◌+◌, ◌-◌, ◌/◌, ◌%◌, ◌≤◌, ◌<◌}
use native.Mathlib.Nat.{div-add-mod'}
use native.Mathlib.Omega.{arith}
use lib.Dec.{ltb}
use lib.IntN.{ℤ, pos, ◌+ℤ◌}
use lib.ListN.{length, get_or, take, drop}
use lib.Seq.{ext_get_or}
use borrow.Author.Tests.{le-leb, lt-ltb, le-ltb}
use Rattle.rows.specs.Places.{fill}
use Rattle.rows.specs.Cut.{Rect, has, covered, Each, Inside, Cut, SameSide, begins}
use Rattle.rows.proofs.Laws.Blocks.Places.{by-lt}
use Rattle.rows.proofs.Laws.Blocks.Fill.{length-fill, fill_in_lem}
use Rattle.rows.proofs.Laws.Cut.Cut.{In, box_in, beside_fill}
use Rattle.blocks.specs.Order.{endless_put}
use Rattle.blocks.specs.Cut.{put_number}
use Rattle.blocks.proofs.Laws.Cut.Places.{Predicted, PutSays, PutCalls}
use Rattle.blocks.proofs.Laws.Cut.CFunctions as functions
use Rattle.cut.specs.inner.Tiles.{least, Piece}

-- ---- pieces of a side

least_some : (whole : ℕ) → 0 < least whole
unfolding least
least_some whole = by-lt 4 whole (λ u. rw (lt-ltb 4 whole u) (omega arith)) λ u. rw (le-ltb 4 whole u) (omega arith)

-- a side that isn't empty has a piece
least_side : (whole : ℕ) → 0 < whole → least whole ≤ whole
unfolding least
least_side whole some = by-lt 4 whole (λ u. rw (lt-ltb 4 whole u) u) λ u. rw (le-ltb 4 whole u) some

-- a piece is on the side's own side of four
pub same_side : (whole n : ℕ) → least whole ≤ n → n ≤ whole → ltb 4 n ≡ ltb 4 whole
unfolding least
same_side whole n a b =
    by-lt 4 whole
    (λ u. lt-ltb 4 n (omega (arith, rw (lt-ltb 4 whole u) at a)) ∙ sym (lt-ltb 4 whole u))
    λ u. le-ltb 4 n (omega arith) ∙ sym (le-ltb 4 whole u)

-- a side is cut up to the place p: none is left, or enough
pub record Upto (whole p : ℕ) : Type 0 where
  pub within : p ≤ whole
  pub enough : p < whole → least whole ≤ whole - p

pub upto_none : (whole : ℕ) → Upto whole 0
upto_none whole = record { within = omega arith; enough = λ some. omega (arith, least_side whole some) }

pub upto_more : {whole p n : ℕ} → Upto whole p → p < whole → Piece whole (whole - p) n → Upto whole (p + n)
upto_more u some a = record { within = omega (arith, a); enough = λ more. omega (arith, a.rest (omega arith)) }

pub piece_some : {whole left n : ℕ} → Piece whole left n → 0 < n
piece_some {whole} a = omega (arith, a, least_some whole)

-- ---- lists of rectangles, one after the other

each_join : (P : Rect → Type 0) (rs qs : List Rect) → Each P rs → Each P qs → Each P (rs ++ qs)
unfolding Each
each_join P [] qs a b = b
each_join P (r ∷ rs) qs a b = (a.0, each_join P rs qs a.1 b)

-- a place of the first or of the second
or_left : (a b c : Bool) → a || b ≡ true → (b ≡ true → c ≡ true) → a || c ≡ true
or_left true b c e f = refl
or_left false b c e f = f e

or_right : (a c : Bool) → c ≡ true → a || c ≡ true
or_right true c e = refl
or_right false c e = e

covered-first : (rs qs : List Rect) (i j : ℕ) → covered rs i j ≡ true → covered (rs ++ qs) i j ≡ true
unfolding covered
covered-first [] qs i j e = absurd (true≢false (sym e))
covered-first (r ∷ rs) qs i j e = or_left (has r i j) _ _ e (covered-first rs qs i j)

covered_then : (rs qs : List Rect) (i j : ℕ) → covered qs i j ≡ true → covered (rs ++ qs) i j ≡ true
unfolding covered
covered_then [] qs i j e = e
covered_then (r ∷ rs) qs i j e = or_right (has r i j) _ (covered_then rs qs i j e)

module _ (says : PutSays) (x y : ℤ) (stride : ℕ) where
  calls_join : (rs qs : List Rect) (d e f : List ℕ) → PutCalls says x y stride rs d e → PutCalls says x y stride qs e f
      → PutCalls says x y stride (rs ++ qs) d f
  unfolding PutCalls
  calls_join [] qs d e f a b = subst (λ (l : List ℕ). PutCalls says x y stride qs l f) a b
  calls_join (r ∷ rs) qs d e f a b = (a.0, a.1, a.2, a.3, a.4, calls_join rs qs _ e f a.5 b)

  module _ (w h : ℕ) where
    -- calls for tiles of a block of w x h have covered the part r of it, and left dst' of dst
    pub record Tiled (r : Rect) (dst dst' : List ℕ) : Type 0 where
      pub tiles : List Rect
      pub inside : Each (Inside w h) tiles
      pub sides : Each (SameSide w h) tiles
      pub covers : (i j : ℕ) → In r i j → covered tiles i j ≡ true
      pub calls : PutCalls says x y stride tiles dst dst'

    -- no call yet
    pub tiled_none : (r : Rect) (d : List ℕ) → ((i j : ℕ) → In r i j → ⊥) → Tiled r d d
    unfolding Each PutCalls
    tiled_none r d empty = record { tiles = []; inside = tt; sides = tt; covers = λ i j q. absurd (empty i j q); calls = refl }

    -- one call
    pub tiled_one : (r : Rect) (d e : List ℕ) → Inside w h r → SameSide w h r → PutCalls says x y stride (r ∷ []) d e → Tiled r d e
    unfolding Each covered
    tiled_one r d e a b calls =
        record {
          tiles = r ∷ [];
          inside = (a, tt);
          sides = (b, tt);
          covers = λ i j q. rw (box_in r i j q.left q.right q.top q.low) refl;
          calls = calls;
        }

    -- calls for the part q after calls for the part p cover what is in one of them
    pub tiled_join : (p q r : Rect) (d e f : List ℕ) → Tiled p d e → Tiled q e f → ((i j : ℕ) → In r i j → In p i j ⊎ In q i j) → Tiled r d f
    tiled_join p q r d e f a b split =
        record {
          tiles = a.tiles ++ b.tiles;
          inside = each_join _ a.tiles b.tiles a.inside b.inside;
          sides = each_join _ a.tiles b.tiles a.sides b.sides;
          covers =
              λ i j m.
              ⊎_elim (λ u. covered-first a.tiles b.tiles i j (a.covers i j u)) (λ u. covered_then a.tiles b.tiles i j (b.covers i j u))
              (split i j m);
          calls = calls_join a.tiles b.tiles d e f a.calls b.calls;
        }

    -- more columns of a row of tiles
    pub tiled_beside : (top left columns rows : ℕ) (d e f : List ℕ) → Tiled (record { x = 0; y = top; w = left; h = rows }) d e
        → Tiled (record { x = left; y = top; w = columns; h = rows }) e f → Tiled (record { x = 0; y = top; w = left + columns; h = rows }) d f
    tiled_beside top left columns rows d e f a b =
        tiled_join _ _ _ d e f a b (λ i j q.
        by-lt i left
        (λ u. inl (record { left = omega arith; right = omega arith; top = q.top; low = q.low }))
        λ u. inr (record { left = u; right = omega (arith, q); top = q.top; low = q.low }))

    -- more rows, once a row of tiles is whole
    pub tiled_below : (top left rows : ℕ) (d e f : List ℕ) → w ≤ left → Tiled (record { x = 0; y = 0; w = w; h = top }) d e
        → Tiled (record { x = 0; y = top; w = left; h = rows }) e f → Tiled (record { x = 0; y = 0; w = w; h = top + rows }) d f
    tiled_below top left rows d e f whole a b =
        tiled_join _ _ _ d e f a b (λ i j q.
        by-lt j top
        (λ u. inl (record { left = q.left; right = q.right; top = omega arith; low = omega arith }))
        λ u. inr (record { left = q.left; right = omega (arith, q); top = u; low = omega (arith, q) }))

    -- calls that cover the block cut it
    pub tiled_cut : (top : ℕ) (d e : List ℕ) → h ≤ top → (t : Tiled (record { x = 0; y = 0; w = w; h = top }) d e) → Cut w h t.tiles
    tiled_cut top d e whole t =
        record {
          inside = t.inside;
          covers = λ i j a b. t.covers i j (record { left = omega arith; right = omega arith; top = omega arith; low = omega arith });
        }

-- a call at x + left, y + top that answers 0, lent n places of d
pub one_call : (says : PutSays) (x y x' y' : ℤ) (stride : ℕ) (r : Rect) (k n : ℕ) (d scratch scratch' part : List ℕ)
    → x' ≡ x +ℤ pos r.x → y' ≡ y +ℤ pos r.y → k ≡ 0
    → says x' y' r.w r.h scratch (take n (drop (begins stride r) d)) stride k scratch' part
    → PutCalls says x y stride (r ∷ []) d (take (begins stride r) d ++ (part ++ drop n (drop (begins stride r) d)))
unfolding PutCalls
one_call says x y x' y' stride r k n d scratch scratch' part ex ey ek told =
    (n, scratch, scratch', part, rw (← ex, ← ey, ← ek) told, refl)

-- a block that is predicted, as an equation
pub predicted_fill : (w h s : ℕ) (f : ℕ → ℕ → ℕ) (d e : List ℕ) → w ≤ s → Predicted w h s f d e → e ≡ fill d s w h f
predicted_fill w h s f d e carries p = ext_get_or 0 e (fill d s w h f) (p.long ∙ sym (length-fill d s w h f)) at where
  at : (k : ℕ) → k < length e → get_or e k 0 ≡ get_or (fill d s w h f) k 0
  at k b =
      let long : k < length d = omega (arith, p.long) in
      let out : (w ≤ k % s) ⊎ (h ≤ k / s) → get_or e k 0 ≡ get_or (fill d s w h f) k 0 =
      λ o. p.outside k long o ∙ sym (beside_fill 0 d s w h f k long o) in
      let whole = div-add-mod' k s in
      by-lt (k % s) w
      (λ u.
      by-lt (k / s) h
      (λ v.
      ap (λ (n : ℕ). get_or e n 0) (sym whole)
      ∙ p.inside (k % s) (k / s) u v
      ∙ sym (fill_in_lem 0 s d w h f (k % s) (k / s) carries u v (p.within (k % s) (k / s) u v))
      ∙ ap (λ (n : ℕ). get_or (fill d s w h f) n 0) whole)
      λ v. out (inr v))
      λ u. out (inl u)

-- ---- tiles of hv_order_put_16bpc

module _ (depth : ℤ) (lw lh : ℕ) (sh sv : Bool) (pn : ℕ) (plane : List ℕ) (ps kind : ℕ) (mx my ft a b c d : ℤ) (subpel ext warp : List ℤ)
    (x y : ℤ) (w h stride : ℕ) (small : kind ≤ 2) (carries : w ≤ stride) where
  -- they leave the block on the endless plane: the theorem about the C function, as an equation
  pub tiles_fill : (top : ℕ) (dst dst' : List ℕ) → h ≤ top
      → Tiled (functions.put16 depth lw lh sh sv pn plane ps kind mx my ft a b c d subpel ext warp) x y stride w h (record { x = 0; y = 0; w = w; h = top })
      dst dst'
      → dst' ≡ fill dst stride w h
      (endless_put
      (functions.set16 depth lw lh sh sv pn plane ps kind mx my ft a b c d subpel ext warp)
      (functions.order16 depth lw lh sh sv pn plane ps kind mx my ft a b c d subpel ext warp x y w h))
  tiles_fill top dst dst' whole t =
      predicted_fill w h stride _ dst dst' carries
      (functions.cut_put_16bpc depth lw lh sh sv pn plane ps kind mx my ft a b c d subpel ext warp x y w h t.tiles small
      (tiled_cut _ _ _ _ _ _ top dst dst' whole t) t.sides stride dst dst' carries t.calls)

  -- the number of a tile's call, whose place and lengths are the tile's
  pub tile-number : (t : Rect) (x' y' : ℤ) (scratch lent scratch' part : List ℕ) (sl dl r : ℕ) → x' ≡ x +ℤ pos t.x → y' ≡ y +ℤ pos t.y
      → length scratch ≡ sl → length lent ≡ dl - begins stride t
      → functions.put16 depth lw lh sh sv pn plane ps kind mx my ft a b c d subpel ext warp x' y' t.w t.h scratch lent stride r scratch' part
      → r ≡ put_number
      (functions.set16 depth lw lh sh sv pn plane ps kind mx my ft a b c d subpel ext warp)
      (functions.order16 depth lw lh sh sv pn plane ps kind mx my ft a b c d subpel ext warp x y w h)
      sl stride dl t
  tile-number t x' y' scratch lent scratch' part sl dl r ex ey es ed told = told.0 ∙ rw (le-leb kind 3 (omega arith), ex, ey, es, ed) refl
