-- Demand 3's calls: a rectangle's picture is the block's, moved along; what a call that isn't refused tells, and what it leaves. The depth is a number
-- of the setting, so the laws hold of bytes and of 16-bit pixels. Assumes nothing.
use Rattle.blocks.proofs.Usual.{true, List, [], ◌∷◌, ◌++◌, ◌≡◌, ◌∙◌, refl, sym, ap, ap₂, ℕ, ◌≤◌, ◌*◌, ◌+◌, ◌-◌, ◌<◌, arith, pos, ℤ, length, drop, bits_of}
use Rattle.blocks.proofs.Usual.{max_of, bias_of, up, at, fill, Setting, Tables, put_rule, order_dst, before, Rows, Block, fill_in_lem, length-fill, by-lt}
use Rattle.blocks.proofs.Usual.{row_fits, done}
use mathlib.Core.Path.{fun_ext}
use mathlib.Core.Bool.{true≢false}
use native.Mathlib.Nat.{le_refl}
use lib.ListN.{take, length-drop}
use Rattle.rows.specs.Places.{lent_from}
use Rattle.rows.specs.Subpel.{filter_bits, put8, prep8}
use Rattle.rows.specs.Cut.{Rect, Each, Cut, SameSide, begins, put_each}
use Rattle.rows.proofs.Laws.Cut.Cut.{length-lent, each_map, cut_each, fill-narrow}
use Rattle.rows.proofs.Laws.Cut.Kernel.{around-moved, same_across, same_down}
use Rattle.blocks.specs.Subpel.{put8_rule, prep8_rule}
use Rattle.blocks.specs.Order.{kind_number, prep_rule, around_in, put_picture, prep_picture, endless_put, endless_prep}
use Rattle.blocks.specs.Order.{order_tmp}
use Rattle.blocks.specs.Cut.{unwarped, cut_order, call_number, call_dst, call_tmp, put_rects, put_number}
use Rattle.blocks.specs.declared.order.Order.{Order}
use Rattle.blocks.specs.declared.order.Kind.{Kind}
use Rattle.blocks.specs.declared.order.Kind.TheVariants.{Copy, Subpel, Bilinear, Warp}
use Rattle.blocks.proofs.Laws.Order.Ready.{order_met, order_block, order_dst_lem}

-- ---- a rectangle on the block's side of four has the block's rule

module _ (subpel ext warp : List ℤ) (w h : ℕ) (r : Rect) (side : SameSide w h r) where
  put8_same : (M B : ℕ) (mx my t : ℤ) → put8_rule M B subpel ext mx my t r.w r.h ≡ put8_rule M B subpel ext mx my t w h
  unfolding put8_rule
  put8_same M B mx my t = ap₂ (put8 M B (filter_bits t)) (same_across subpel ext t (up mx) w h r side) (same_down subpel ext t (up my) w h r side)

  prep8_same : (B P : ℕ) (mx my t : ℤ) → prep8_rule B P subpel ext mx my t r.w r.h ≡ prep8_rule B P subpel ext mx my t w h
  unfolding prep8_rule
  prep8_same B P mx my t = ap₂ (prep8 B P (filter_bits t)) (same_across subpel ext t (up mx) w h r side) (same_down subpel ext t (up my) w h r side)

  -- copy and bilinear don't read the sides, and only warp reads the place
  pub put_same : (M B : ℕ) (k : Kind) → unwarped k ≡ true → (i j i' j' : ℕ) (q : ℕ → ℕ → ℕ)
      → put_rule M B subpel ext warp k r.w r.h i j q ≡ put_rule M B subpel ext warp k w h i' j' q
  unfolding put_rule unwarped
  put_same M B Copy u i j i' j' q = refl
  put_same M B (Subpel m) u i j i' j' q = λ t. put8_same M B m.mx m.my m.filter_type t q
  put_same M B (Bilinear m) u i j i' j' q = refl
  put_same M B (Warp s) u i j i' j' q = absurd (true≢false (sym u))

  pub prep_same : (B P : ℕ) (k : Kind) → unwarped k ≡ true → (i j i' j' : ℕ) (q : ℕ → ℕ → ℕ)
      → prep_rule B P subpel ext warp k r.w r.h i j q ≡ prep_rule B P subpel ext warp k w h i' j' q
  unfolding prep_rule unwarped
  prep_same B P Copy u i j i' j' q = refl
  prep_same B P (Subpel m) u i j i' j' q = λ t. prep8_same B P m.mx m.my m.filter_type t q
  prep_same B P (Bilinear m) u i j i' j' q = refl
  prep_same B P (Warp s) u i j i' j' q = absurd (true≢false (sym u))

-- ---- so its picture on a plane g is the block's, moved along

module _ (depth : ℕ) (t : Tables) (o : Order) (kind : unwarped o.kind ≡ true) (g : ℤ → ℤ → ℕ)
    (r : Rect) (side : SameSide o.w o.h r) (i j : ℕ) where
  same_around : around_in (cut_order o r) g i j ≡ around_in o g (r.x + i) (r.y + j)
  same_around = fun_ext λ a. fun_ext λ b. around-moved (before (kind_number o.kind)) g o.x o.y r.x r.y i j a b

  pub put-moved : put_picture depth t (cut_order o r) g i j ≡ put_picture depth t o g (r.x + i) (r.y + j)
  unfolding put_picture
  put-moved =
      put_same t.subpel t.ext t.warp o.w o.h r side (max_of depth) (bits_of depth) o.kind kind i j (r.x + i) (r.y + j) _
      ∙ ap (put_rule (max_of depth) (bits_of depth) t.subpel t.ext t.warp o.kind o.w o.h (r.x + i) (r.y + j)) same_around

  pub prep-moved : prep_picture depth t (cut_order o r) g i j ≡ prep_picture depth t o g (r.x + i) (r.y + j)
  unfolding prep_picture
  prep-moved =
      prep_same t.subpel t.ext t.warp o.w o.h r side (bits_of depth) (bias_of depth) o.kind kind i j (r.x + i) (r.y + j) _
      ∙ ap (prep_rule (bits_of depth) (bias_of depth) t.subpel t.ext t.warp o.kind o.w o.h (r.x + i) (r.y + j)) same_around

-- ---- a call that isn't refused

module _ (s : Setting) (o : Order) (sl stride : ℕ) where
  -- has a block, and a buffer of dl places that holds its rows
  pub call_met : (dl : ℕ) → call_number s o sl dl stride ≡ 0 → Block o.w o.h × Rows dl stride o.w o.h
  call_met dl e = let m = order_met s true o sl dl stride e in (order_block m, order_dst_lem m)

  -- and leaves its picture
  pub call_dst_lem : (dst : List ℕ) → call_number s o sl (length dst) stride ≡ 0 → call_dst s o sl stride dst ≡ fill dst stride o.w o.h (endless_put s o)
  unfolding order_dst
  call_dst_lem dst e = done (call_number s o sl (length dst) stride) _ dst e

  pub call_tmp_lem : (tmp : List ℤ) → call_number s o sl (length tmp) stride ≡ 0 → call_tmp s o sl stride tmp ≡ fill tmp stride o.w o.h (endless_prep s o)
  unfolding order_tmp
  call_tmp_lem tmp e = done (call_number s o sl (length tmp) stride) _ tmp e

-- in an intermediate without gaps, place by place
pub call_tmp_at : (s : Setting) (o : Order) (sl : ℕ) (tmp : List ℤ) → call_number s o sl (length tmp) o.w ≡ 0 → (i j : ℕ) → i < o.w → j < o.h
    → at (call_tmp s o sl o.w tmp) (j * o.w + i) ≡ endless_prep s o i j
call_tmp_at s o sl tmp e i j a b =
    let m = call_met s o sl o.w (length tmp) e in
    ap (λ (d : List ℤ). at d (j * o.w + i)) (call_tmp_lem s o sl o.w tmp e)
    ∙ fill_in_lem (pos 0) o.w tmp o.w o.h (endless_prep s o) i j (le_refl o.w) a b
    (omega (arith, row_fits (length tmp) o.w o.w o.h j m.1.fits b))

-- ---- the calls of a cut, run as put

-- a rectangle that begins inside a destination of dl places, whose stride isn't 0
abbrev pub Begun : (stride dl : ℕ) → Rect → Type 0
Begun stride dl r = (1 ≤ stride) × (begins stride r ≤ dl)

pub begun : (s : Setting) (o : Order) (sl stride dl : ℕ) (r : Rect) → put_number s o sl stride dl r ≡ 0 → Begun stride dl r
begun s o sl stride dl r e = let m = call_met s (cut_order o r) sl stride (dl - begins stride r) e in (omega (arith, m.0, m.1), omega (arith, m.0, m.1))

module _ (s : Setting) (o : Order) (stride dl : ℕ) where
  -- a rectangle's own picture, written into d
  abbrev pub drawn : Rect → List ℕ → List ℕ
  drawn r d = fill d stride r.w r.h (endless_put s (cut_order o r))

  pub length_drawn : (r : Rect) (dst : List ℕ) → length dst ≡ dl → Begun stride dl r → length (lent_from (begins stride r) (drawn r) dst) ≡ dl
  length_drawn r dst l b =
      length-lent 0 (begins stride r) (drawn r) dst (omega (arith, b.1)) (length-fill (drop (begins stride r) dst) stride r.w r.h _) ∙ l

  module _ (sl : ℕ) where
    -- it is what its call leaves
    put_one : (r : Rect) (dst : List ℕ) → length dst ≡ dl → put_number s o sl stride dl r ≡ 0
        → lent_from (begins stride r) (call_dst s (cut_order o r) sl stride) dst ≡ lent_from (begins stride r) (drawn r) dst
    put_one r dst l e =
        let k = begins stride r in
        let lent : length (drop k dst) ≡ dl - k = length-drop k dst ∙ ap (λ (n : ℕ). n - k) l in
        let zero = ap (λ (n : ℕ). call_number s (cut_order o r) sl n stride) lent ∙ e in
        ap (λ (d : List ℕ). take k dst ++ d) (call_dst_lem s (cut_order o r) sl stride (drop k dst) zero)

    -- so the calls write each rectangle's own picture
    pub puts : (rs : List Rect) (dst : List ℕ) → length dst ≡ dl → Each (λ r. put_number s o sl stride dl r ≡ 0) rs
        → put_rects s o sl stride rs dst ≡ put_each stride (λ r. endless_put s (cut_order o r)) rs dst
    unfolding put_rects put_each Each
    puts [] dst l e = refl
    puts (r ∷ rs) dst l e =
        let one = put_one r dst l e.0 in
        puts rs _ (ap length one ∙ length_drawn r dst l (begun s o sl stride dl r e.0)) e.1
        ∙ ap (put_each stride (λ r. endless_put s (cut_order o r)) rs) one

-- a stride of 0 carries no rectangle
none_drawn : {A : Type 0} (s dl : ℕ) (picture : Rect → ℕ → ℕ → A) (rs : List Rect) (d : List A) → s ≤ 0 → Each (Begun s dl) rs → put_each s picture rs d ≡ d
unfolding put_each Each
none_drawn s dl picture [] d z e = refl
none_drawn s dl picture (r ∷ rs) d z e = absurd (omega (arith, e.0.0))

-- the rectangles' own pictures are together the block's
pub drawn_block : (s : Setting) (o : Order) (stride : ℕ) (rs : List Rect) (dst : List ℕ) → unwarped o.kind ≡ true → Cut o.w o.h rs
    → Each (SameSide o.w o.h) rs → o.w ≤ stride → Each (Begun stride (length dst)) rs
    → put_each stride (λ r. endless_put s (cut_order o r)) rs dst ≡ fill dst stride o.w o.h (endless_put s o)
drawn_block s o stride rs dst kind cut sides carries begun =
    by-lt 0 stride
    (λ some.
    cut_each 0 stride some (endless_put s o) (λ r. endless_put s (cut_order o r)) o.w o.h rs dst cut carries
    (each_map _ _ rs (λ r b. b.1) begun)
    (each_map _ _ rs (λ r side i j _ _. put-moved s.depth s.tables o kind _ r side i j) sides))
    λ none. none_drawn stride (length dst) _ rs dst none begun ∙ sym (fill-narrow 0 dst stride o.w o.h (endless_put s o) (omega arith))
