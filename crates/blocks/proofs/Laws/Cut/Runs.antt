-- Demand 3 of calls that each leave the picture of a rectangle; and of calls as the contracts of orders tell of them: each has its number, and scratch and
-- dst (or tmp) at the end. Assumes nothing.
use Rattle.blocks.proofs.Usual.{true, List, [], ◌∷◌, ◌++◌, ◌≡◌, ◌∙◌, refl, sym, ap, ℕ, ◌≤◌, ◌*◌, ◌+◌, ◌-◌, ◌<◌, ℤ, length, drop, at, fill, Setting}
use Rattle.blocks.proofs.Usual.{order_dst, or_same, arith, subst, Block, Rows, length-fill}
use lib.ListN.{take, length-drop}
use Rattle.rows.specs.Places.{lent_from}
use Rattle.rows.specs.Cut.{Rect, Each, begins, put_each}
use Rattle.rows.proofs.Laws.Cut.Cut.{length-lent, each_map}
use Rattle.blocks.specs.Order.{endless_put, endless_prep, order_tmp, OrderPutAnswer, OrderPrepAnswer}
use Rattle.blocks.specs.Cut.{cut_order, call_number}
use Rattle.blocks.specs.declared.order.Order.{Order}
use Rattle.blocks.proofs.Laws.Cut.Calls.{prep-moved, call_met, call_tmp_lem, call_tmp_at, Begun, drawn_block}
use Rattle.blocks.proofs.Laws.Cut.Demand.{CutBlock}

-- ---- calls of any function, each of which leaves the picture of its rectangle

-- a call is lent d and leaves d': d holds h rows of w at the stride, and d' is d with the picture f in them
module _ {A : Type 0} where
  pub record Leaves (w h stride : ℕ) (f : ℕ → ℕ → A) (d d' : List A) : Type 0 where
    pub block : Block w h
    pub rows : Rows (length d) stride w h
    pub left : d' ≡ fill d stride w h f

-- such calls one after the other, each into dst from its rectangle's first pixel on
unfoldable pub Left : (stride : ℕ) → (Rect → ℕ → ℕ → ℕ) → List Rect → (dst dst' : List ℕ) → Type 0
Left stride picture [] dst dst' = dst' ≡ dst
Left stride picture (r ∷ rs) dst dst' =
    (part : List ℕ) × Leaves r.w r.h stride (picture r) (drop (begins stride r) dst) part
    × Left stride picture rs (take (begins stride r) dst ++ part) dst'

-- a rectangle whose rows a destination of dl places has, from the rectangle's first pixel on
abbrev pub Within : (stride dl : ℕ) → Rect → Type 0
Within stride dl r = Block r.w r.h × Rows (dl - begins stride r) stride r.w r.h

within_begun : (stride dl : ℕ) (r : Rect) → Within stride dl r → Begun stride dl r
within_begun stride dl r m = (omega (arith, m.0, m.1), omega (arith, m.0, m.1))

module _ (stride dl : ℕ) (picture : Rect → ℕ → ℕ → ℕ) where
  -- the destination has each rectangle, and they write each rectangle's own picture
  pub all_left : (rs : List Rect) (dst dst' : List ℕ) → length dst ≡ dl → Left stride picture rs dst dst'
      → Each (Within stride dl) rs × (dst' ≡ put_each stride picture rs dst)
  unfolding Left Each put_each
  all_left [] dst dst' l a = (tt, a)
  all_left (r ∷ rs) dst dst' l a =
      let k = begins stride r in
      let lent : length (drop k dst) ≡ dl - k = length-drop k dst ∙ ap (λ (n : ℕ). n - k) l in
      let within : Within stride dl r = (a.1.block, subst (λ (n : ℕ). Rows n stride r.w r.h) lent a.1.rows) in
      let draw : List ℕ → List ℕ = λ d. fill d stride r.w r.h (picture r) in
      let one : take k dst ++ a.0 ≡ lent_from k draw dst = ap (λ (d : List ℕ). take k dst ++ d) a.1.left in
      let long = length-lent 0 k draw dst (omega (arith, l, within_begun stride dl r within)) (length-fill (drop k dst) stride r.w r.h (picture r)) in
      let rest = all_left rs (take k dst ++ a.0) dst' (ap length one ∙ long ∙ l) a.2 in
      ((within, rest.0), rest.1 ∙ ap (put_each stride picture rs) one)

-- where each picture is the rectangle's own on the endless plane, they are together the block's
pub left-block : (s : Setting) (o : Order) (stride : ℕ) (rs : List Rect) (dst dst' : List ℕ) → CutBlock o rs → o.w ≤ stride
    → Left stride (λ r. endless_put s (cut_order o r)) rs dst dst' → dst' ≡ fill dst stride o.w o.h (endless_put s o)
left-block s o stride rs dst dst' p carries a =
    let calls = all_left stride (length dst) _ rs dst dst' refl a in
    calls.1
    ∙ drawn_block s o stride rs dst p.kind p.cut p.sides carries (each_map _ _ rs (within_begun stride (length dst)) calls.0)

-- ---- calls of orders

-- "Fetch and predict each by itself, in any order. If no call is refused": calls one after the other, each into dst from its rectangle's first pixel on,
-- each answering 0, each with any scratch
unfoldable pub Ran : Setting → Order → (stride : ℕ) → List Rect → (dst dst' : List ℕ) → Type 0
Ran s o stride [] dst dst' = dst' ≡ dst
Ran s o stride (r ∷ rs) dst dst' =
    (scratch : List ℕ) × (scratch' : List ℕ) × (part : List ℕ)
    × OrderPutAnswer s true (cut_order o r) scratch (drop (begins stride r) dst) stride 0 scratch' part
    × Ran s o stride rs (take (begins stride r) dst ++ part) dst'

-- each leaves its picture
pub order_leaves : (s : Setting) (o : Order) (scratch dst : List ℕ) (stride : ℕ) (scratch' dst' : List ℕ)
    → OrderPutAnswer s true o scratch dst stride 0 scratch' dst' → Leaves o.w o.h stride (endless_put s o) dst dst'
unfolding order_dst or_same
order_leaves s o scratch dst stride scratch' dst' a =
    let m = call_met s o (length scratch) stride (length dst) (sym a.0) in
    record { block = m.0; rows = m.1; left = a.2 }

pub ran_left : (s : Setting) (o : Order) (stride : ℕ) (rs : List Rect) (dst dst' : List ℕ) → Ran s o stride rs dst dst'
    → Left stride (λ r. endless_put s (cut_order o r)) rs dst dst'
unfolding Ran Left
ran_left s o stride [] dst dst' a = a
ran_left s o stride (r ∷ rs) dst dst' a =
    (a.2, order_leaves s (cut_order o r) a.0 (drop (begins stride r) dst) stride a.1 a.2 a.3, ran_left s o stride rs _ dst' a.4)

-- demand 3, run as put: "the result is the block predicted on that endless plane, and no destination pixel outside it changes"
pub run_put : (s : Setting) (o : Order) (stride : ℕ) (rs : List Rect) (dst dst' : List ℕ) → CutBlock o rs → o.w ≤ stride → Ran s o stride rs dst dst'
    → dst' ≡ fill dst stride o.w o.h (endless_put s o)
run_put s o stride rs dst dst' p carries a = left-block s o stride rs dst dst' p carries (ran_left s o stride rs dst dst' a)

-- what every call that answers 0 leaves in the intermediate of the rectangle r, place by place
abbrev pub RanPrep : Setting → Order → Rect → Type 0
RanPrep s o r =
    (scratch scratch' : List ℕ) (tmp tmp' : List ℤ) → OrderPrepAnswer s true (cut_order o r) scratch tmp r.w 0 scratch' tmp'
    → (i j : ℕ) → i < r.w → j < r.h → at tmp' (j * r.w + i) ≡ endless_prep s o (r.x + i) (r.y + j)

-- demand 3, "run as prep, each has its own intermediate without gaps, and the law holds place by place"
pub run_prep : (s : Setting) (o : Order) (rs : List Rect) → CutBlock o rs → Each (RanPrep s o) rs
unfolding order_tmp or_same
run_prep s o rs p =
    each_map _ _ rs (λ r side scratch scratch' tmp tmp' a i j u v.
    let zero : call_number s (cut_order o r) (length scratch) (length tmp) r.w ≡ 0 = sym a.0 in
    ap (λ (d : List ℤ). at d (j * r.w + i)) (a.2 ∙ sym (call_tmp_lem s (cut_order o r) (length scratch) r.w tmp zero))
    ∙ call_tmp_at s (cut_order o r) (length scratch) tmp zero i j u v
    ∙ prep-moved s.depth s.tables o p.kind _ r side i j) p.sides
