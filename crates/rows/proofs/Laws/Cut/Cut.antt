-- The cut law, for any picture: rectangles inside a block that together cover it leave the block, in whatever order they are written. Assumes nothing.
use Rattle.rows.proofs.Usual.{true, Bool, false, List, ⊎_elim, ◌⊎◌, ◌≡◌, ◌∙◌, refl, ap, sym, subst, ◌-◌, ◌+◌, ◌*◌, ◌≤◌, ◌<◌, ℕ, ◌/◌, ◌%◌, arith, length}
use Rattle.rows.proofs.Usual.{get_or, length-take-le, by-lt}
use mathlib.Core.Logic.{inl}
use mathlib.Core.Bool.{◌&&◌, ◌||◌, true≢false}
use mathlib.Core.List.{[], ◌∷◌, ◌++◌}
use native.Mathlib.Nat.{add-mul, zero-add, mod-lt, div-add-mod'}
use lib.ListN.{take, drop, length-append, length-drop, get_or-append}
use lib.Seq.{ext_get_or, get_or-append-add, get_or-take, get_or-drop}
use lib.Dec.{leb}
use borrow.Author.Tests.{le-leb, leb-true}
use Rattle.rows.specs.Places.{pick, in_block, fill, fill_in, lent_from}
use Rattle.rows.specs.Cut.{Rect, has, begins, Inside, covered, Each, Cut, put_each}
use Rattle.rows.proofs.Laws.Blocks.Places.{col_of, row_of_lem}
use Rattle.rows.proofs.Laws.Blocks.Fill.{get_d_paint, in_block_in, in_block_true, in_block_col, in_block-row, and_true, length-fill, length-fill_in, fill_in-at, fill_in-is, fill_in-ext, fill_in_join, fill_same}

-- ---- a box, by its places

pub box_in : (r : Rect) (i j : ℕ) → r.x ≤ i → i < r.x + r.w → r.y ≤ j → j < r.y + r.h → has r i j ≡ true
unfolding has
box_in r i j a b c d = rw (le-leb r.x i a, le-leb r.y j c, in_block_in r.w r.h (i - r.x) (j - r.y) (omega arith) (omega arith)) refl

pub record In (r : Rect) (i j : ℕ) : Type 0 where
  pub left : r.x ≤ i
  pub right : i < r.x + r.w
  pub top : r.y ≤ j
  pub low : j < r.y + r.h

pub box_true : (r : Rect) (i j : ℕ) → has r i j ≡ true → In r i j
unfolding has
box_true r i j e =
    let p = and_true (leb r.x i && leb r.y j) (in_block r.w r.h (i - r.x) (j - r.y)) e in
    let q = and_true (leb r.x i) (leb r.y j) p.0 in
    let a = leb-true r.x i q.0 in
    let b = leb-true r.y j q.1 in
    let t = in_block_true r.w r.h (i - r.x) (j - r.y) p.1 in
    record { left = a; right = omega (arith, t.0); top = b; low = omega (arith, t.1) }

-- a test is settled by what would make it hold
settle : (a b : Bool) → (a ≡ true → b ≡ true) → (b ≡ true → a ≡ true) → a ≡ b
settle true b f g = sym (f refl)
settle false true f g = g refl
settle false false f g = refl

module _ {A : Type 0} where
  -- one rectangle of the picture f, written by itself
  abbrev pub put_rect : ℕ → (ℕ → ℕ → A) → Rect → List A → List A
  put_rect s f r d = lent_from (begins s r) (λ l. fill l s r.w r.h (λ i j. f (r.x + i) (r.y + j))) d

not_true : (t : Bool) → (t ≡ true → ⊥) → t ≡ false
not_true true h = absurd (h refl)
not_true false h = refl

-- two ways to write one place
pub same_place : (s i j i' j' : ℕ) → i < s → i' < s → j * s + i ≡ j' * s + i' → (i ≡ i') × (j ≡ j')
same_place s i j i' j' a b e =
    (sym (col_of s i j a) ∙ ap (λ (p : ℕ). p % s) e ∙ col_of s i' j' b, sym (row_of_lem s i j a) ∙ ap (λ (p : ℕ). p / s) e ∙ row_of_lem s i' j' b)

module _ {A : Type 0} (z : A) (k : ℕ) (g : List A → List A) (d : List A) (fits : k ≤ length d) where
  lent-before : (p : ℕ) → p < k → get_or (lent_from k g d) p z ≡ get_or d p z
  lent-before p h =
      get_or-append (take k d) (g (drop k d)) z p (subst (λ (n : ℕ). p < n) (sym (length-take-le k d fits)) h) ∙ get_or-take k d p z h

  lent-after : (q : ℕ) → get_or (lent_from k g d) (k + q) z ≡ get_or (g (drop k d)) q z
  lent-after q = ap (λ (n : ℕ). get_or (lent_from k g d) (n + q) z) (sym (length-take-le k d fits)) ∙ get_or-append-add (take k d) (g (drop k d)) q z

  pub length-lent : length (g (drop k d)) ≡ length (drop k d) → length (lent_from k g d) ≡ length d
  length-lent e = length-append (take k d) (g (drop k d)) ∙ omega (arith, length-take-le k d fits, length-drop k d)

module _ {A : Type 0} (z : A) (s : ℕ) (pos : 0 < s) (f : ℕ → ℕ → A) where
  -- a rectangle written by itself is the rectangle of the whole
  pub put_rect_lem : (r : Rect) (d : List A) → r.x + r.w ≤ s → begins s r ≤ length d → put_rect s f r d ≡ fill_in d s (has r) f
  unfolding fill
  put_rect_lem r d right fits = fill_in-is z s pos d (has r) f (put_rect s f r d) (length-lent z k g d fits (length-fill (drop k d) s r.w r.h f')) at where
    k : ℕ
    k = begins s r

    f' : ℕ → ℕ → A
    f' = λ i j. f (r.x + i) (r.y + j)

    g : List A → List A
    g = λ l. fill l s r.w r.h f'

    -- inside the rectangle
    on : (i j : ℕ) → In r i j → j * s + i < length d → get_or (put_rect s f r d) (j * s + i) z ≡ f i j
    on i j p h =
        let a = i - r.x in
        let b = j - r.y in
        let m : (r.y + b) * s ≡ r.y * s + b * s = add-mul r.y b s in
        let ea : r.x + a ≡ i = omega (arith, p) in
        let eb : r.y + b ≡ j = omega (arith, p) in
        let e : j * s + i ≡ k + (b * s + a) = omega (arith, m, ap (λ (n : ℕ). n * s) eb) in
        let l = length-drop k d in
        ap (λ (n : ℕ). get_or (put_rect s f r d) n z) e
        ∙ lent-after z k g d fits (b * s + a)
        ∙ fill_in-at z s (drop k d) (in_block r.w r.h) f' a b (omega (arith, p)) (omega arith)
        ∙ rw (in_block_in r.w r.h a b (omega (arith, p)) (omega (arith, p)), ea, eb) refl

    -- past the rectangle's first place, outside it
    off : (i j : ℕ) → i < s → has r i j ≡ false → k ≤ j * s + i → j * s + i < length d → get_or (put_rect s f r d) (j * s + i) z ≡ get_or d (j * s + i) z
    off i j c e t h =
        let q = j * s + i - k in
        let a = q % s in
        let b = q / s in
        let eq : b * s + a ≡ q = div-add-mod' q s in
        let ek : j * s + i ≡ k + (b * s + a) = omega arith in
        let l = length-drop k d in
        let la = mod-lt q pos in
        let w : in_block r.w r.h a b ≡ false = not_true (in_block r.w r.h a b) (λ v.
        let p = in_block_true r.w r.h a b v in
        let m : (r.y + b) * s ≡ r.y * s + b * s = add-mul r.y b s in
        let u = same_place s i j (r.x + a) (r.y + b) c (omega (arith, p.0)) (omega arith) in
        true≢false (sym (box_in r i j (omega (arith, u.0)) (omega (arith, u.0, p.0)) (omega (arith, u.1)) (omega (arith, u.1, p.1))) ∙ e)) in
        ap (λ (n : ℕ). get_or (put_rect s f r d) n z) ek
        ∙ lent-after z k g d fits (b * s + a)
        ∙ fill_in-at z s (drop k d) (in_block r.w r.h) f' a b la (omega arith)
        ∙ rw w (get_or-drop k d (b * s + a) z)
        ∙ ap (λ (n : ℕ). get_or d n z) (sym ek)

    at : (i j : ℕ) → i < s → j * s + i < length d → get_or (put_rect s f r d) (j * s + i) z ≡ pick (has r i j) (f i j) (get_or d (j * s + i) z)
    at i j c h = go (has r i j) refl where
      go : (t : Bool) → has r i j ≡ t → get_or (put_rect s f r d) (j * s + i) z ≡ pick t (f i j) (get_or d (j * s + i) z)
      go true e = on i j (box_true r i j e) h
      go false e = by-lt (j * s + i) k (λ b. lent-before z k g d fits (j * s + i) b) λ b. off i j c e b h

-- ---- the cut

pub each_map : (P Q : Rect → Type 0) (rs : List Rect) → ((r : Rect) → P r → Q r) → Each P rs → Each Q rs
unfolding Each
each_map P Q [] f e = tt
each_map P Q (r ∷ rs) f e = (f r e.0, each_map P Q rs f e.1)

pub each_both : (P Q S : Rect → Type 0) (rs : List Rect) → ((r : Rect) → P r → Q r → S r) → Each P rs → Each Q rs → Each S rs
unfolding Each
each_both P Q S [] f a b = tt
each_both P Q S (r ∷ rs) f a b = (f r a.0 b.0, each_both P Q S rs f a.1 b.1)

-- a place that is covered is in a rectangle, which has what each has
pub in_one : {P : Rect → Type 0} {C : Type 0} (rs : List Rect) (i j : ℕ) → covered rs i j ≡ true → Each P rs → ((r : Rect) → P r → In r i j → C) → C
unfolding covered Each
in_one [] i j c e k = absurd (true≢false (sym c))
in_one {P} {C} (r ∷ rs) i j c e k = go (has r i j) refl c (λ d. in_one rs i j d e.1 k) where
  go : (t : Bool) → has r i j ≡ t → t || covered rs i j ≡ true → (covered rs i j ≡ true → C) → C
  go true q d rest = k r e.0 (box_true r i j q)
  go false q d rest = rest d

covered-inside : (w h : ℕ) (rs : List Rect) → Each (Inside w h) rs → (i j : ℕ) → covered rs i j ≡ true → (i < w) × (j < h)
covered-inside w h rs e i j c = in_one rs i j c e λ r a p. (omega (arith, p, a), omega (arith, p, a))

-- the places of a cut are those of the block
pub cut_places : (w h : ℕ) (rs : List Rect) → Cut w h rs → (i j : ℕ) → covered rs i j ≡ in_block w h i j
cut_places w h rs c i j =
    settle (covered rs i j) (in_block w h i j)
    (λ e. let p = covered-inside w h rs c.inside i j e in in_block_in w h i j p.0 p.1)
    λ e. let p = in_block_true w h i j e in c.covers i j p.0 p.1

module _ {A : Type 0} where
  -- the rectangles are written one after the other
  unfoldable pub put_all : ℕ → (ℕ → ℕ → A) → List Rect → List A → List A
  put_all s f [] d = d
  put_all s f (r ∷ rs) d = put_all s f rs (put_rect s f r d)

module _ {A : Type 0} (z : A) (s : ℕ) (pos : 0 < s) (f : ℕ → ℕ → A) where
  -- what is written is the picture at the places that are covered
  pub put_all_lem : (rs : List Rect) (d : List A) → Each (λ r. (r.x + r.w ≤ s) × (begins s r ≤ length d)) rs → put_all s f rs d ≡ fill_in d s (covered rs) f
  unfolding put_all covered Each
  put_all_lem [] d e = fill_in-is z s pos d (λ i j. false) f d refl λ i j b h. refl
  put_all_lem (r ∷ rs) d e =
      let one = put_rect_lem z s pos f r d e.0.0 e.0.1 in
      let long : length (put_rect s f r d) ≡ length d = ap length one ∙ length-fill_in d s (has r) f in
      put_all_lem rs (put_rect s f r d) (each_map _ _ rs (λ q p. (p.0, subst (λ (n : ℕ). begins s q ≤ n) (sym long) p.1)) e.1)
      ∙ ap (λ (l : List A). fill_in l s (covered rs) f) one
      ∙ fill_in_join z s pos d (has r) (covered rs) f

  -- A block that is cut into rectangles and written one by one, in whatever order, is the block; nothing else changes
  pub cut : (w h : ℕ) (rs : List Rect) (d : List A) → Cut w h rs → w ≤ s → Each (λ r. begins s r ≤ length d) rs → put_all s f rs d ≡ fill d s w h f
  unfolding fill
  cut w h rs d c ws fits =
      put_all_lem rs d (each_both (Inside w h) (λ r. begins s r ≤ length d) (λ r. (r.x + r.w ≤ s) × (begins s r ≤ length d)) rs (λ r a b. (omega (arith, a), b)) c.inside fits)
      ∙ fill_in-ext z s pos d (covered rs) (in_block w h) f f (λ i j b k v. ap (λ (t : Bool). pick t (f i j) v) (cut_places w h rs c i j))

-- ---- a block by its places, whatever the stride

module _ {A : Type 0} (z : A) (d : List A) (s w h : ℕ) (f : ℕ → ℕ → A) where
  place_of_fill : (p : ℕ) → p < length d → get_or (fill d s w h f) p z ≡ pick (in_block w h (p % s) (p / s)) (f (p % s) (p / s)) (get_or d p z)
  unfolding fill fill_in
  place_of_fill p b = get_d_paint z 0 _ d p b ∙ rw (zero-add p) refl

  -- right of its columns or below its rows nothing changes
  pub beside_fill : (p : ℕ) → p < length d → (w ≤ p % s) ⊎ (h ≤ p / s) → get_or (fill d s w h f) p z ≡ get_or d p z
  beside_fill p b o =
      place_of_fill p b
      ∙ ap (λ (t : Bool). pick t (f (p % s) (p / s)) (get_or d p z)) (⊎_elim (λ q. in_block_col w h (p % s) (p / s) q) (λ q. in_block-row w h (p % s) (p / s) q) o)

  -- a block without columns
  pub fill-narrow : w ≤ 0 → fill d s w h f ≡ d
  fill-narrow e = ext_get_or z (fill d s w h f) d (length-fill d s w h f) λ p b. beside_fill p (rw (length-fill d s w h f) at b) (inl (omega arith))

-- ---- rectangles that each have a picture of their own

module _ {A : Type 0} (z : A) (s : ℕ) (pos : 0 < s) (f : ℕ → ℕ → A) (pic : Rect → ℕ → ℕ → A) where
  -- a rectangle's picture is the block's, moved along
  abbrev pub Moved : Rect → Type 0
  Moved r = (i j : ℕ) → i < r.w → j < r.h → pic r i j ≡ f (r.x + i) (r.y + j)

  put_each_lem : (rs : List Rect) (d : List A) → Each Moved rs → put_each s pic rs d ≡ put_all s f rs d
  unfolding put_each put_all Each
  put_each_lem [] d e = refl
  put_each_lem (r ∷ rs) d e =
      put_each_lem rs (lent_from (begins s r) (λ l. fill l s r.w r.h (pic r)) d) e.1
      ∙ ap (λ (m : List A). put_all s f rs (take (begins s r) d ++ m)) (fill_same z s pos (drop (begins s r) d) r.w r.h (pic r) (λ i j. f (r.x + i) (r.y + j)) e.0)

  -- a block that is cut, each rectangle predicted by itself
  pub cut_each : (w h : ℕ) (rs : List Rect) (d : List A) → Cut w h rs → w ≤ s → Each (λ r. begins s r ≤ length d) rs → Each Moved rs
      → put_each s pic rs d ≡ fill d s w h f
  cut_each w h rs d c ws fits moved = put_each_lem rs d moved ∙ cut z s pos f w h rs d c ws fits
