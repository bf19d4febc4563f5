-- Demand 3 of runs of calls, place by place: what is in the destination, or in the intermediates, after the calls. Assumes nothing.
use mathlib.Core.Path.{◌≡◌, refl, sym, ap, ap₂, ◌∙◌, subst}
use mathlib.Core.Logic.{◌⊎◌, inl, inr}
use mathlib.Core.Bool.{Bool, true, false, ◌||◌, true≢false}
use mathlib.Core.List.{List, [], ◌∷◌, ◌++◌}
use Prim.Native.Nat.{ℕ, ◌+◌, ◌-◌, ◌*◌, ◌/◌, ◌%◌, ◌≤◌, ◌<◌}
use native.Mathlib.Nat.{zero-add, le_refl, add-mul, mul-le-mul_right, div-add-mod'}
use native.Mathlib.Omega.{arith}
use lib.IntN.{ℤ, pos, ◌+ℤ◌}
use lib.ListN.{length, get_or, take, drop, length-take, length-drop, get_or-append}
use lib.Seq.{ext_get_or, get_or-append-add, get_or-take, get_or-drop, length_front}
use borrow.Author.Tests.{le-leb}
use Rattle.rows.specs.Numbers.{at}
use Rattle.rows.specs.Places.{pixel, pick, in_block, fill_in, fill, lent_from}
use Rattle.rows.specs.Cut.{Rect, has, covered, Each, SameSide, begins}
use Rattle.rows.proofs.Laws.Blocks.Places.{by-lt, row-le, row_fits}
use Rattle.rows.proofs.Laws.Blocks.Fill.{get_d_paint, length-fill, fill_in_lem}
use Rattle.rows.proofs.Laws.Cut.Cut.{In, box_in, box_true, in_one, beside_fill}
use Rattle.blocks.specs.Refuse.{or_same, holds}
use Rattle.blocks.specs.Order.{Setting, endless_put, endless_prep, order_tests, order_number, order_scratch, order_dst, order_tmp, OrderPutAnswer}
use Rattle.blocks.specs.Order.{OrderPrepAnswer}
use Rattle.blocks.specs.Cut.{cut_order, call_number, call_dst, put_rects, put_number}
use Rattle.blocks.specs.declared.order.Order.{Order}
use Rattle.blocks.specs.declared.order.Kind.{Kind}
use Rattle.blocks.proofs.Laws.Calls.Refuse.{all_met, met_all}
use Rattle.blocks.proofs.Laws.Cut.Calls.{prep-moved, call_met, call_dst_lem, begun, drawn, length_drawn}
use Rattle.blocks.proofs.Laws.Cut.Demand.{CutBlock}
use Rattle.blocks.proofs.Laws.Cut.Runs.{Leaves, Left, all_left, left-block, Ran, order_leaves, ran_left}

-- a place past the last row's last pixel is right of the block or below it
past : (s w h p : ℕ) → (h - 1) * s + w ≤ p → (w ≤ p % s) ⊎ (h ≤ p / s)
past s w h p e =
    by-lt (p / s) h
    (λ b. inl (omega (arith, div-add-mod' p s, mul-le-mul_right {m = p / s} {n = h - 1} s (omega arith))))
    λ b. inr b

-- ---- run as put

-- dst' is dst with the block f of w x h at its start, and nothing else changed
pub record Predicted (w h stride : ℕ) (f : ℕ → ℕ → ℕ) (dst dst' : List ℕ) : Type 0 where
  pub long : length dst' ≡ length dst
  -- the destination has each pixel of the block
  pub within : (i j : ℕ) → i < w → j < h → j * stride + i < length dst
  pub inside : (i j : ℕ) → i < w → j < h → pixel dst' stride i j ≡ f i j
  -- place k stands at column k % stride of row k / stride
  pub outside : (k : ℕ) → k < length dst → (w ≤ k % stride) ⊎ (h ≤ k / stride) → get_or dst' k 0 ≡ get_or dst k 0

-- calls that each leave a rectangle's own picture leave the block on the endless plane
pub left_predicted : (s : Setting) (o : Order) (stride : ℕ) (rs : List Rect) (dst dst' : List ℕ) → CutBlock o rs → o.w ≤ stride
    → Left stride (λ r. endless_put s (cut_order o r)) rs dst dst' → Predicted o.w o.h stride (endless_put s o) dst dst'
left_predicted s o stride rs dst dst' p carries a =
    record {
      long = ap length whole ∙ length-fill dst stride o.w o.h (endless_put s o);
      within = held;
      inside =
          λ i j u v. ap (λ (d : List ℕ). pixel d stride i j) whole ∙ fill_in_lem 0 stride dst o.w o.h (endless_put s o) i j carries u v (held i j u v);
      outside = λ k b out. ap (λ (d : List ℕ). get_or d k 0) whole ∙ beside_fill 0 dst stride o.w o.h (endless_put s o) k b out;
    } where
      whole : dst' ≡ fill dst stride o.w o.h (endless_put s o)
      whole = left-block s o stride rs dst dst' p carries a

      held : (i j : ℕ) → i < o.w → j < o.h → j * stride + i < length dst
      held i j u v =
          in_one rs i j (p.cut.covers i j u v) (all_left stride (length dst) _ rs dst dst' refl a).0 λ r m q.
          let k : r.y + (j - r.y) ≡ j = omega (arith, q) in
          omega (
            arith,
            q,
            row_fits (length dst - begins stride r) stride r.w r.h (j - r.y) m.1.fits (omega (arith, q)),
            add-mul r.y (j - r.y) stride,
            ap (λ (n : ℕ). n * stride) k,
          )

-- calls as the contracts of orders tell of them, each answering 0, do so
pub ran_predicted : (s : Setting) (o : Order) (stride : ℕ) (rs : List Rect) (dst dst' : List ℕ) → CutBlock o rs → o.w ≤ stride
    → Ran s o stride rs dst dst' → Predicted o.w o.h stride (endless_put s o) dst dst'
ran_predicted s o stride rs dst dst' p carries a = left_predicted s o stride rs dst dst' p carries (ran_left s o stride rs dst dst' a)

-- ---- run as put, each call lent a part of the destination

-- what a function that puts says of a call: place, sides, scratch, dst and its stride, then the number, scratch and dst at the end
abbrev pub PutSays : Type 1
PutSays = (x y : ℤ) (w h : ℕ) (scratch dst : List ℕ) (stride r : ℕ) (scratch' dst' : List ℕ) → Type 0

-- calls one after the other, each answering 0, each with any scratch, each lent any n places of dst from its rectangle's first pixel on: all that are left,
-- or no more than the rectangle's own rows, (h - 1) x stride + w
unfoldable pub PutCalls : PutSays → (x y : ℤ) (stride : ℕ) → List Rect → (dst dst' : List ℕ) → Type 0
PutCalls says x y stride [] dst dst' = dst' ≡ dst
PutCalls says x y stride (r ∷ rs) dst dst' =
    (n : ℕ) × (scratch : List ℕ) × (scratch' : List ℕ) × (part : List ℕ)
    × says (x +ℤ pos r.x) (y +ℤ pos r.y) r.w r.h scratch (take n (drop (begins stride r) dst)) stride 0 scratch' part
    × PutCalls says x y stride rs (take (begins stride r) dst ++ (part ++ drop n (drop (begins stride r) dst))) dst'

-- a call of an order that puts a block of the kind, named being the outcome of the kind's test
abbrev pub put_says : Setting → (named : Bool) → Kind → PutSays
put_says s named kind x y w h scratch dst stride r scratch' dst' =
    OrderPutAnswer s named (record { x = x; y = y; w = w; h = h; kind = kind }) scratch dst stride r scratch' dst'

-- what such a function tells of a call that answers 0: it leaves its block on the endless plane
abbrev pub PutTells : PutSays → Setting → Kind → Type 0
PutTells says s kind =
    (x y : ℤ) (w h : ℕ) (scratch dst : List ℕ) (stride : ℕ) (scratch' dst' : List ℕ) → says x y w h scratch dst stride 0 scratch' dst'
    → Leaves w h stride (endless_put s (record { x = x; y = y; w = w; h = h; kind = kind })) dst dst'

pub order_tells : (s : Setting) (kind : Kind) → PutTells (put_says s true kind) s kind
order_tells s kind x y w h scratch dst stride scratch' dst' a =
    order_leaves s (record { x = x; y = y; w = w; h = h; kind = kind }) scratch dst stride scratch' dst' a

-- an order that isn't refused isn't refused with any other buffer that holds its rows
pub held_number : (s : Setting) (named : Bool) (o : Order) (sl dl dl' ds : ℕ) → order_number s named o sl dl ds ≡ 0 → (o.h - 1) * ds + o.w ≤ dl'
    → order_number s named o sl dl' ds ≡ 0
unfolding holds
held_number s named o sl dl dl' ds e fits =
    let (t1, (t2, (t3, (t4, (t5, (t6, (t7, (t8, (t9, (t10, (t11, (t12, (t13, (t14, (t15, (t16, (t17, (t18, (held, none))))))))))))))))))) =
    all_met (order_tests s named o sl dl ds) e in
    let fit = le-leb ((o.h - 1) * ds + o.w) dl' fits in
    met_all (order_tests s named o sl dl' ds)
    (t1, (t2, (t3, (t4, (t5, (t6, (t7, (t8, (t9, (t10, (t11, (t12, (t13, (t14, (t15, (t16, (t17, (t18, (fit, tt)))))))))))))))))))

module _ {A : Type 0} (z : A) (s w h : ℕ) (f : ℕ → ℕ → A) where
  place : (d : List A) (p : ℕ) → p < length d → get_or (fill d s w h f) p z ≡ pick (in_block w h (p % s) (p / s)) (f (p % s) (p / s)) (get_or d p z)
  unfolding fill fill_in
  place d p b = get_d_paint z 0 _ d p b ∙ rw (zero-add p) refl

  -- a block in the first n places of d
  fill_front : (d : List A) (n : ℕ) → (h - 1) * s + w ≤ length (take n d) → fill (take n d) s w h f ++ drop n d ≡ fill d s w h f
  fill_front d n fits = ext_get_or z _ _ (same ∙ sym (length-fill d s w h f)) at where
    front : List A
    front = fill (take n d) s w h f

    long : length front ≡ length (take n d)
    long = length-fill (take n d) s w h f

    same : length (front ++ drop n d) ≡ length d
    same = length_front d front n long

    at : (p : ℕ) → p < length (front ++ drop n d) → get_or (front ++ drop n d) p z ≡ get_or (fill d s w h f) p z
    at p b =
        by-lt p (length (take n d))
        (λ u.
        get_or-append front (drop n d) z p (omega (arith, long))
        ∙ place (take n d) p u
        ∙ ap (pick (in_block w h (p % s) (p / s)) (f (p % s) (p / s))) (get_or-take n d p z (omega (arith, length-take n d)))
        ∙ sym (place d p (omega (arith, same))))
        λ u.
        let q = p - length (take n d) in
        ap (λ (k : ℕ). get_or (front ++ drop n d) k z) (omega (arith, long))
        ∙ get_or-append-add front (drop n d) q z
        ∙ get_or-drop n d q z
        ∙ ap (λ (k : ℕ). get_or d k z) (omega (arith, same, length-take n d))
        ∙ sym (beside_fill z d s w h f p (omega (arith, same)) (past s w h p (omega arith)))

-- what a call leaves in the first n places of d is what it leaves in d
front_leaves : (w h stride : ℕ) (f : ℕ → ℕ → ℕ) (d part : List ℕ) (n : ℕ) → Leaves w h stride f (take n d) part
    → Leaves w h stride f d (part ++ drop n d)
front_leaves w h stride f d part n a =
    record {
      block = a.block;
      rows = record { wide = a.rows.wide; most = a.rows.most; fits = omega (arith, a.rows, length-take n d) };
      left = ap (λ (l : List ℕ). l ++ drop n d) a.left ∙ fill_front 0 stride w h f d n a.rows.fits;
    }

-- calls of a function that tells that a call leaves its block's picture
module _ (s : Setting) (o : Order) (stride : ℕ) (says : PutSays) (tells : PutTells says s o.kind) where
  calls_left : (rs : List Rect) (dst dst' : List ℕ) → PutCalls says o.x o.y stride rs dst dst'
      → Left stride (λ r. endless_put s (cut_order o r)) rs dst dst'
  unfolding PutCalls Left
  calls_left [] dst dst' a = a
  calls_left (r ∷ rs) dst dst' a =
      let lent = drop (begins stride r) dst in
      let one = tells _ _ r.w r.h a.1 (take a.0 lent) stride a.2 a.3 a.4 in
      let whole = front_leaves r.w r.h stride (endless_put s (cut_order o r)) lent a.3 a.0 one in
      (a.3 ++ drop a.0 lent, whole, calls_left rs _ dst' a.5)

  pub calls_predicted : (rs : List Rect) (dst dst' : List ℕ) → CutBlock o rs → o.w ≤ stride → PutCalls says o.x o.y stride rs dst dst'
      → Predicted o.w o.h stride (endless_put s o) dst dst'
  calls_predicted rs dst dst' p carries a = left_predicted s o stride rs dst dst' p carries (calls_left rs dst dst' a)

-- what each call leaves is what it leaves where all places are lent
pub calls_ran : (s : Setting) (o : Order) (stride : ℕ) (rs : List Rect) (dst dst' : List ℕ)
    → PutCalls (put_says s true o.kind) o.x o.y stride rs dst dst' → Ran s o stride rs dst dst'
unfolding PutCalls Ran order_dst or_same
calls_ran s o stride [] dst dst' a = a
calls_ran s o stride (r ∷ rs) dst dst' a =
    let lent = drop (begins stride r) dst in
    let n = a.0 in
    let sl = length a.1 in
    let m = call_met s (cut_order o r) sl stride (length (take n lent)) (sym a.4.0) in
    let fits : (r.h - 1) * stride + r.w ≤ length lent = omega (arith, m.1, length-take n lent) in
    let zero = held_number s true (cut_order o r) sl (length (take n lent)) (length lent) stride (sym a.4.0) fits in
    let left : a.3 ++ drop n lent ≡ fill lent stride r.w r.h (endless_put s (cut_order o r)) =
    ap (λ (d : List ℕ). d ++ drop n lent) a.4.2 ∙ fill_front 0 stride r.w r.h (endless_put s (cut_order o r)) lent n m.1.fits in
    (a.1, a.2, a.3 ++ drop n lent, (sym zero, a.4.1, left), calls_ran s o stride rs _ dst' a.5)

-- such calls can be made where no number refuses them, with any scratch, each lent its rectangle's own rows alone: what they leave is `put_rects`
pub rects_calls : (s : Setting) (o : Order) (stride dl : ℕ) (scratch : List ℕ) (rs : List Rect) (dst : List ℕ) → length dst ≡ dl
    → Each (λ r. put_number s o (length scratch) stride dl r ≡ 0) rs
    → PutCalls (put_says s true o.kind) o.x o.y stride rs dst (put_rects s o (length scratch) stride rs dst)
unfolding Each PutCalls put_rects order_dst or_same
rects_calls s o stride dl scratch [] dst l e = refl
rects_calls s o stride dl scratch (r ∷ rs) dst l e =
    let k = begins stride r in
    let lent = drop k dst in
    let own = (r.h - 1) * stride + r.w in
    let sl = length scratch in
    let q = cut_order o r in
    let zero : call_number s q sl (length lent) stride ≡ 0 =
    ap (λ (n : ℕ). call_number s q sl n stride) (length-drop k dst ∙ ap (λ (n : ℕ). n - k) l) ∙ e.0 in
    let held : own ≤ length (take own lent) = omega (arith, (call_met s q sl stride (length lent) zero).1, length-take own lent) in
    let part = fill (take own lent) stride r.w r.h (endless_put s q) in
    let whole = fill_front 0 stride r.w r.h (endless_put s q) lent own held in
    let next = lent_from k (call_dst s q sl stride) dst in
    let left : next ≡ lent_from k (drawn s o stride dl r) dst = ap (λ (d : List ℕ). take k dst ++ d) (call_dst_lem s q sl stride lent zero) in
    let same : next ≡ take k dst ++ (part ++ drop own lent) = left ∙ ap (λ (d : List ℕ). take k dst ++ d) (sym whole) in
    let long = ap length left ∙ length_drawn s o stride dl r dst l (begun s o sl stride dl r e.0) in (
      own,
      scratch,
      order_scratch 0 s.lent q scratch,
      part,
      (sym (held_number s true q sl (length lent) (length (take own lent)) stride zero held), refl, refl),
      subst (λ (d : List ℕ). PutCalls (put_says s true o.kind) o.x o.y stride rs d (put_rects s o sl stride rs next)) same
          (rects_calls s o stride dl scratch rs next long e.1),
    )

-- ---- run as prep

-- what a function that preps says of a call: place, sides, scratch, tmp and its stride, then the number, scratch and tmp at the end
abbrev pub PrepSays : Type 1
PrepSays = (x y : ℤ) (w h : ℕ) (scratch : List ℕ) (tmp : List ℤ) (stride r : ℕ) (scratch' : List ℕ) (tmp' : List ℤ) → Type 0

-- a call for the rectangle r of the block at x, y that answers 0, into an intermediate of its own without gaps
pub record PrepCall (says : PrepSays) (x y : ℤ) (r : Rect) : Type 0 where
  pub scratch : List ℕ
  pub scratch' : List ℕ
  pub tmp : List ℤ
  pub tmp' : List ℤ
  pub told : says (x +ℤ pos r.x) (y +ℤ pos r.y) r.w r.h scratch tmp r.w 0 scratch' tmp'

-- each rectangle and what it has meet Q, and some do
unfoldable pub All : (P : Rect → Type 0) → ((r : Rect) → P r → Type 0) → (rs : List Rect) → Each P rs → Type 0
unfolding Each
All P Q [] e = Unit {0}
All P Q (r ∷ rs) e = Q r e.0 × All P Q rs e.1

unfoldable pub Some : (P : Rect → Type 0) → ((r : Rect) → P r → Type 0) → (rs : List Rect) → Each P rs → Type 0
unfolding Each
Some P Q [] e = ⊥
Some P Q (r ∷ rs) e = Q r e.0 ⊎ Some P Q rs e.1

module _ (P S : Rect → Type 0) (Q : (r : Rect) → P r → Type 0) where
  pub all_of : (rs : List Rect) (e : Each P rs) → Each S rs → ((r : Rect) (c : P r) → S r → Q r c) → All P Q rs e
  unfolding Each All
  all_of [] e m f = tt
  all_of (r ∷ rs) e m f = (f r e.0 m.0, all_of rs e.1 m.1 f)

  -- a place that is covered is in some rectangle
  pub some_of : (rs : List Rect) (e : Each P rs) → Each S rs → (i j : ℕ) → covered rs i j ≡ true → ((r : Rect) (c : P r) → S r → In r i j → Q r c)
      → Some P Q rs e
  unfolding Each Some covered
  some_of [] e m i j c f = absurd (true≢false (sym c))
  some_of (r ∷ rs) e m i j c f = go (has r i j) refl c (λ d. some_of rs e.1 m.1 i j d f) where
    go : (t : Bool) → has r i j ≡ t → t || covered rs i j ≡ true → (covered rs i j ≡ true → Some P Q rs e.1) → Q r e.0 ⊎ Some P Q rs e.1
    go true q d rest = inl (f r e.0 m.0 (box_true r i j q))
    go false q d rest = inr (rest d)

module _ (says : PrepSays) (x y : ℤ) (f : ℕ → ℕ → ℤ) where
  -- the call's intermediate has the block's pixel at i, j
  pub record Has (i j : ℕ) (r : Rect) (c : PrepCall says x y r) : Type 0 where
    pub covers : has r i j ≡ true
    pub within : (j - r.y) * r.w + (i - r.x) < length c.tmp'
    pub value : at c.tmp' ((j - r.y) * r.w + (i - r.x)) ≡ f i j

  -- it has the rectangle of the block, place by place, and nothing else changed
  pub record Prepped (r : Rect) (c : PrepCall says x y r) : Type 0 where
    pub long : length c.tmp' ≡ length c.tmp
    pub within : r.h * r.w ≤ length c.tmp
    pub inside : (i j : ℕ) → i < r.w → j < r.h → at c.tmp' (j * r.w + i) ≡ f (r.x + i) (r.y + j)
    pub outside : (k : ℕ) → k < length c.tmp → r.h * r.w ≤ k → at c.tmp' k ≡ at c.tmp k

  -- after the calls each pixel of the block of w x h is in an intermediate, and each intermediate is as it should be
  pub record AllPrepped (w h : ℕ) (rs : List Rect) (calls : Each (PrepCall says x y) rs) : Type 0 where
    pub pixels : (i j : ℕ) → i < w → j < h → Some (PrepCall says x y) (Has i j) rs calls
    pub each : All (PrepCall says x y) Prepped rs calls

-- a call of an order that preps a block of the kind, named being the outcome of the kind's test
abbrev pub prep_says : Setting → (named : Bool) → Kind → PrepSays
prep_says s named kind x y w h scratch tmp stride r scratch' tmp' =
    OrderPrepAnswer s named (record { x = x; y = y; w = w; h = h; kind = kind }) scratch tmp stride r scratch' tmp'

-- what such a function tells of a call that answers 0: it leaves its block on the endless plane
abbrev pub PrepTells : PrepSays → Setting → Kind → Type 0
PrepTells says s kind =
    (x y : ℤ) (w h : ℕ) (scratch : List ℕ) (tmp : List ℤ) (stride : ℕ) (scratch' : List ℕ) (tmp' : List ℤ)
    → says x y w h scratch tmp stride 0 scratch' tmp'
    → Leaves w h stride (endless_prep s (record { x = x; y = y; w = w; h = h; kind = kind })) tmp tmp'

pub order_prep_tells : (s : Setting) (kind : Kind) → PrepTells (prep_says s true kind) s kind
unfolding order_tmp or_same
order_prep_tells s kind x y w h scratch tmp stride scratch' tmp' a =
    let m = call_met s (record { x = x; y = y; w = w; h = h; kind = kind }) (length scratch) stride (length tmp) (sym a.0) in
    record { block = m.0; rows = m.1; left = a.2 }

-- such a call can be made where its number doesn't refuse it
unfoldable pub prep_call : (s : Setting) (o : Order) (r : Rect) (scratch : List ℕ) (tmp : List ℤ)
    → call_number s (cut_order o r) (length scratch) (length tmp) r.w ≡ 0 → PrepCall (prep_says s true o.kind) o.x o.y r
unfolding order_tmp or_same
prep_call s o r scratch tmp e =
    record {
      scratch = scratch;
      scratch' = order_scratch 0 s.lent (cut_order o r) scratch;
      tmp = tmp;
      tmp' = fill tmp r.w r.w r.h (endless_prep s (cut_order o r));
      told = (sym e, refl, refl);
    }

-- calls of a function that tells so
module _ (s : Setting) (o : Order) (says : PrepSays) (tells : PrepTells says s o.kind) (rs : List Rect) (p : CutBlock o rs) where
  module _ (r : Rect) (side : SameSide o.w o.h r) (c : PrepCall says o.x o.y r) where
    leaves : Leaves r.w r.h r.w (endless_prep s (cut_order o r)) c.tmp c.tmp'
    leaves = tells _ _ r.w r.h c.scratch c.tmp r.w c.scratch' c.tmp' c.told

    -- its rows without gaps
    places : ((r.h - 1) * r.w + r.w ≡ r.h * r.w) × (r.h * r.w ≤ length c.tmp)
    places =
        let e : r.h - 1 + 1 ≡ r.h = omega (arith, leaves.block) in
        let rows : (r.h - 1) * r.w + r.w ≡ r.h * r.w = omega (arith, add-mul (r.h - 1) 1 r.w, ap (λ (n : ℕ). n * r.w) e) in
        (rows, omega (arith, leaves.rows))

    pub call_prepped : Prepped says o.x o.y (endless_prep s o) r c
    call_prepped =
        record {
          long = ap length leaves.left ∙ length-fill c.tmp r.w r.w r.h (endless_prep s (cut_order o r));
          within = places.1;
          inside =
              λ i j u v.
              ap (λ (d : List ℤ). at d (j * r.w + i)) leaves.left
              ∙ fill_in_lem (pos 0) r.w c.tmp r.w r.h (endless_prep s (cut_order o r)) i j (le_refl r.w) u v
              (omega (arith, row_fits (length c.tmp) r.w r.w r.h j leaves.rows.fits v))
              ∙ prep-moved s.depth s.tables o p.kind _ r side i j;
          outside =
              λ k b out.
              ap (λ (d : List ℤ). at d k) leaves.left
              ∙ beside_fill (pos 0) c.tmp r.w r.w r.h _ k b (past r.w r.w r.h k (omega (arith, places.0)));
        }

    has-pixel : (i j : ℕ) → In r i j → Has says o.x o.y (endless_prep s o) i j r c
    has-pixel i j q =
        let a : r.x + (i - r.x) ≡ i = omega (arith, q) in
        let b : r.y + (j - r.y) ≡ j = omega (arith, q) in
        record {
          covers = box_in r i j q.left q.right q.top q.low;
          within = omega (arith, q, call_prepped.long, call_prepped.within, row-le r.w {j = j - r.y} {y = r.h} (omega (arith, q)));
          value = call_prepped.inside (i - r.x) (j - r.y) (omega (arith, q)) (omega (arith, q)) ∙ ap₂ (endless_prep s o) a b;
        }

  -- each answering 0, they leave each pixel of the block in a rectangle's intermediate
  pub all_prepped : (calls : Each (PrepCall says o.x o.y) rs) → AllPrepped says o.x o.y (endless_prep s o) o.w o.h rs calls
  all_prepped calls =
      record {
        pixels =
            λ i j u v.
            some_of _ (SameSide o.w o.h) (Has says o.x o.y (endless_prep s o) i j) rs calls p.sides i j (p.cut.covers i j u v)
            (λ r c side q. has-pixel r side c i j q);
        each =
            all_of _ (SameSide o.w o.h) (Prepped says o.x o.y (endless_prep s o)) rs calls p.sides (λ r c side. call_prepped r side c);
      }
