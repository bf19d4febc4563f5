-- An accepted order: its window is fetched and picked, its kind's rows run on it, and their picture is the order's on the endless plane. Assumes nothing.
use Rattle.blocks.proofs.Usual.{true, Bool, List, ◌≡◌, ◌∙◌, refl, sym, ap, ℕ, ◌≤◌, arith, pos, ℤ, length, bits_of, max_of, bias_of, fill, row_of, Setting}
use Rattle.blocks.proofs.Usual.{Tables, put_rule, order_dst, or_same, LentPlane, area_of, window_of, part_of, scratch_of, Rows, fill_same, length-row_of}
use Rattle.blocks.proofs.Usual.{done, refused}
use Rattle.blocks.specs.inner.Ready.{Windowed, PartIn}
use Rattle.blocks.specs.Window.{no_part, around_part}
use Rattle.blocks.specs.inner.Window.{area_at, area_fetched}
use Rattle.blocks.specs.Order.{kind_number, mode_of, asked_by, prep_rule, put_picture, prep_picture, plane_of, order_number}
use Rattle.blocks.specs.Order.{order_scratch, order_tmp, OrderPutAnswer, OrderPrepAnswer}
use Rattle.blocks.specs.inner.Order.{setting_of, lengths_of, order_part, OrderWindow}
use Rattle.blocks.proofs.Laws.Window.Ready.{no_part_of, answer-number, window_number, window_is, Accepted, accepted_scratch, scratch_kept}
use Rattle.blocks.proofs.Laws.Window.Holds.{picked_in, Picked, picked}
use Rattle.blocks.proofs.Laws.Cut.Local.{put_rule_local, prep_rule_local}
use Rattle.blocks.proofs.Laws.Order.Ready.{OrderMet, order_met, order_window, order_block, order_dst_lem, order_windowed}
use Rattle.blocks.specs.declared.frame.Area.{Area}
use Rattle.blocks.specs.declared.frame.Reference.{Reference}
use Rattle.blocks.specs.declared.window.Part.{Part}
use Rattle.blocks.specs.declared.order.Order.{Order}
use Rattle.blocks.specs.declared.order.TableLengths.{TableLengths}
use Rattle.blocks.specs.declared.order.Kind.{Kind}

-- what a kind's rows make of a source
abbrev pub put_on : (depth : ℕ) → Tables → Order → (src : List ℕ) (s : ℕ) → (i j : ℕ) → ℕ
put_on depth t o src s i j =
    put_rule (max_of depth) (bits_of depth) t.subpel t.ext t.warp o.kind o.w o.h i j (around_part (kind_number o.kind) src s i j)

abbrev pub prep_on : (depth : ℕ) → Tables → Order → (src : List ℕ) (s : ℕ) → (i j : ℕ) → ℤ
prep_on depth t o src s i j =
    prep_rule (bits_of depth) (bias_of depth) t.subpel t.ext t.warp o.kind o.w o.h i j (around_part (kind_number o.kind) src s i j)

-- it is the order's block on g, where the source shows the plane g
module _ (depth : ℕ) (t : Tables) (o : Order) {src : List ℕ} {s : ℕ} {g : ℤ → ℤ → ℕ} (p : Picked (asked_by o) g src s) (ds : ℕ) (some : 1 ≤ ds) where
  put_shown : (dst : List ℕ) → fill dst ds o.w o.h (put_on depth t o src s) ≡ fill dst ds o.w o.h (put_picture depth t o g)
  unfolding put_picture
  put_shown dst =
      fill_same 0 ds some dst o.w o.h _ _ λ i j wi hj.
      put_rule_local _ _ t.subpel t.ext t.warp _ _ o.kind _ _ i j λ a b. p.same i j a b wi hj

  prep_shown : (tmp : List ℤ) → fill tmp ds o.w o.h (prep_on depth t o src s) ≡ fill tmp ds o.w o.h (prep_picture depth t o g)
  unfolding prep_picture
  prep_shown tmp =
      fill_same (pos 0) ds some tmp o.w o.h _ _ λ i j wi hj.
      prep_rule_local _ _ t.subpel t.ext t.warp _ _ o.kind _ _ i j λ a b. p.same i j a b wi hj

-- ---- an accepted call, and what its window's call gave: the answer r, and scratch as it was filled. dl is the length of dst (or tmp)
pub record Ordered (s : Setting) (named : Bool) (o : Order) (scratch : List ℕ) (dl ds : ℕ) (r : Part) (filled : List ℕ) : Type 0 where
  pub number : order_number s named o (length scratch) dl ds ≡ 0
  pub answer : r ≡ window_of s.lent (asked_by o) (length scratch)
  pub full : filled ≡ scratch_of r.number s.lent (asked_by o) scratch

-- tables of given lengths: a function that is handed only these speaks of all such tables
pub tables_of : (t : TableLengths) → (tables : Tables) × (lengths_of tables ≡ t)
tables_of t =
    let row : ℕ → List ℤ = λ n. row_of n (λ i. pos 0) in
    let long : (n : ℕ) → length (row n) ≡ n = λ n. length-row_of n (λ i. pos 0) in
    (record { subpel = row t.subpel; ext = row t.ext; warp = row t.warp }, rw (long t.subpel, long t.ext, long t.warp) refl)

-- the number of what is read is the tests'
part-number : (n : ℕ) (p : LentPlane) (o : Order) {r : Part} → r ≡ order_part n p o → r.number ≡ n
unfolding order_part
part-number n p o e = ap (λ (v : Part). v.number) e ∙ answer-number n _ _ _

-- a refused order reads no part, and leaves scratch as it was
module _ (p : LentPlane) (o : Order) {n : ℕ} {r : Part} (other : n ≡ 0 → ⊥) (e : r ≡ no_part n) where
  pub refused-part : {m : ℕ} → n ≡ m → r ≡ order_part m p o
  unfolding order_part
  refused-part is = no_part_of _ is other e

  pub refused-scratch : (scratch : List ℕ) → scratch ≡ order_scratch r.number p o scratch
  unfolding order_scratch
  refused-scratch scratch = rw e (scratch_kept n p (asked_by o) scratch other)

-- an accepted one reads its window where that lies: its window's tests are met, which is why they aren't made again
module _ (s : Setting) (named : Bool) (o : Order) (scratch : List ℕ) (dl ds : ℕ) (z : order_number s named o (length scratch) dl ds ≡ 0) where
  pub order_accepted : Accepted s.lent (asked_by o) (length scratch)
  order_accepted = record { is = order_window (order_met s named o (length scratch) dl ds z) }

  pub fetched-part : {a : Area} {r : Part} → a ≡ area_of s.lent (asked_by o) → r ≡ area_at a (mode_of o.kind) s.lent.stride
      → r ≡ order_part (order_number s named o (length scratch) dl ds) s.lent o
  unfolding order_part
  fetched-part is e = e ∙ rw is (sym (done _ _ _ z))

-- and leaves in scratch what its window's call does
pub fetched-scratch : (p : LentPlane) (o : Order) (scratch : List ℕ) {a : Area} {r : Part} {d : List ℕ} → Accepted p (asked_by o) (length scratch)
    → a ≡ area_of p (asked_by o) → r ≡ area_at a (mode_of o.kind) p.stride
    → d ≡ area_fetched a p.plane p.stride (mode_of o.kind) scratch → d ≡ order_scratch r.number p o scratch
unfolding order_scratch
fetched-scratch p o scratch ok is e full = accepted_scratch ok is scratch e full

-- from what its tests and its window gave, at a depth and with tables of these lengths, where the number is 0
module _ {deep named : Bool} {lent : Reference} {plane : List ℕ} {o : Order} {t : TableLengths} {scratch : List ℕ} {dl ds : ℕ} {r : Part} {filled : List ℕ}
    (depth : ℕ) (tables : Tables) (long : lengths_of tables ≡ t) (w : OrderWindow deep named lent plane o t scratch dl ds r filled) where
  abbrev setting : Setting
  setting = setting_of deep depth lent plane tables

  pub ordered_number : r.number ≡ order_number setting named o (length scratch) dl ds
  ordered_number = part-number _ setting.lent o (w.part depth tables long)

  pub ordered : r.number ≡ 0 → Ordered setting named o scratch dl ds r filled
  unfolding order_part order_scratch
  ordered z =
      let n : order_number setting named o (length scratch) dl ds ≡ 0 = sym ordered_number ∙ z in
      let is = window_is setting.lent (asked_by o) (length scratch) (order_window (order_met setting named o (length scratch) dl ds n)) in
      record { number = n; answer = w.part depth tables long ∙ done _ _ _ n ∙ is; full = w.full }

module _ {s : Setting} {named : Bool} {o : Order} {scratch : List ℕ} {dl ds : ℕ} {r : Part} {filled : List ℕ}
    (q : Ordered s named o scratch dl ds r filled) where
  met : OrderMet s named o (length scratch) dl ds
  met = order_met s named o (length scratch) dl ds q.number

  pub ordered_deep : s.deep ≡ true
  ordered_deep = met.numbers.deep

  -- the part is in its buffer
  pub order_part_lem : PartIn r (length s.lent.plane) (length filled)
  order_part_lem = picked_in s.lent (asked_by o) scratch r filled q.answer q.full

  -- scratch at the end
  kept : filled ≡ order_scratch 0 s.lent o scratch
  unfolding order_scratch
  kept =
      let n = window_number s.lent (asked_by o) (length scratch) in
      q.full ∙ ap (λ (m : ℕ). scratch_of m s.lent (asked_by o) scratch) (ap (λ (v : Part). v.number) q.answer ∙ n ∙ order_window met)

  module _ {src : List ℕ} (from : src ≡ part_of r s.lent.plane filled) where
    source : Picked (asked_by o) (plane_of s.lent) src r.stride
    source = picked s.lent (asked_by o) scratch (order_window met) r filled src q.answer q.full from

    -- what the kind's rows rely on
    pub order_rows : Windowed o.kind (length src) r.stride o.w o.h (length s.tables.subpel) (length s.tables.ext) (length s.tables.warp)
        × Rows dl ds o.w o.h
    order_rows = (order_windowed met source.rows, order_dst_lem met)

    some : 1 ≤ ds
    some = omega (arith, order_block met, order_dst_lem met)

-- ---- what the call answers, where it is refused and where it is accepted
module _ (s : Setting) (named : Bool) (o : Order) (scratch : List ℕ) where
  module _ (dst : List ℕ) (ds : ℕ) {r : ℕ} (is : r ≡ order_number s named o (length scratch) (length dst) ds) where
    pub put_refused : {scratch' : List ℕ} → scratch' ≡ order_scratch r s.lent o scratch → (r ≡ 0 → ⊥)
        → OrderPutAnswer s named o scratch dst ds r scratch' dst
    unfolding order_dst
    put_refused kept h = (is, kept, sym (refused r _ dst h))

    pub put-done : {p : Part} {filled src dst' : List ℕ} → Ordered s named o scratch (length dst) ds p filled → src ≡ part_of p s.lent.plane filled
        → dst' ≡ fill dst ds o.w o.h (put_on s.depth s.tables o src p.stride) → OrderPutAnswer s named o scratch dst ds r filled dst'
    unfolding order_dst or_same
    put-done q from new =
        let z = is ∙ q.number in
        (is, rw z (kept q), rw z (new ∙ put_shown s.depth s.tables o (source q from) ds (some q from) dst))

  module _ (tmp : List ℤ) (ts : ℕ) {r : ℕ} (is : r ≡ order_number s named o (length scratch) (length tmp) ts) where
    pub prep-refused : {scratch' : List ℕ} → scratch' ≡ order_scratch r s.lent o scratch → (r ≡ 0 → ⊥)
        → OrderPrepAnswer s named o scratch tmp ts r scratch' tmp
    unfolding order_tmp
    prep-refused kept h = (is, kept, sym (refused r _ tmp h))

    pub prep-done : {p : Part} {filled src : List ℕ} {tmp' : List ℤ} → Ordered s named o scratch (length tmp) ts p filled
        → src ≡ part_of p s.lent.plane filled → tmp' ≡ fill tmp ts o.w o.h (prep_on s.depth s.tables o src p.stride)
        → OrderPrepAnswer s named o scratch tmp ts r filled tmp'
    unfolding order_tmp or_same
    prep-done q from new =
        let z = is ∙ q.number in
        (is, rw z (kept q), rw z (new ∙ prep_shown s.depth s.tables o (source q from) ts (some q from) tmp))

-- ---- a call by its numbers as they are passed on: an order's, and what answers for them
pub order_passed : {x x' y y' : ℤ} (w h : ℕ) {k k' : Kind} → x ≡ x' → y ≡ y' → k ≡ k'
    → ◌≡◌ {A = Order} (record { x = x; y = y; w = w; h = h; kind = k }) (record { x = x'; y = y'; w = w; h = h; kind = k' })
order_passed w h a b c = rw (a, b, c) refl

pub setting_passed : {deep deep' : Bool} {depth depth' : ℕ} (p : LentPlane) (t : Tables) → deep ≡ deep' → depth ≡ depth'
    → ◌≡◌ {A = Setting} (record { deep = deep; depth = depth; lent = p; tables = t }) (record { deep = deep'; depth = depth'; lent = p; tables = t })
setting_passed p t d b = rw (d, b) refl

module _ (named : Bool) (scratch : List ℕ) (ds r : ℕ) (scratch' : List ℕ) {s s' : Setting} {o o' : Order} (d : s ≡ s') (e : o ≡ o') where
  pub put_passed : (dst dst' : List ℕ) → OrderPutAnswer s named o scratch dst ds r scratch' dst' → OrderPutAnswer s' named o' scratch dst ds r scratch' dst'
  put_passed dst dst' a = rw (← d, ← e) a

  pub prep_passed : (tmp tmp' : List ℤ) → OrderPrepAnswer s named o scratch tmp ds r scratch' tmp' → OrderPrepAnswer s' named o' scratch tmp ds r scratch' tmp'
  prep_passed tmp tmp' a = rw (← d, ← e) a
