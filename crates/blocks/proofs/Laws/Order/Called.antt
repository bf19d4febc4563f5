-- An order's call, as both C functions make it: what its tests and its window tell where the number is 0, whatever the depth and the tables are; and what it
-- answers, by its numbers as they were before they were passed on. Assumes nothing.
use Rattle.blocks.proofs.Usual.{true, Bool, List, ◌≡◌, ◌∙◌, refl, ap, subst, ℕ, ℤ, length, w16, w32, w64, SFits, up, fill, Setting, Tables, kind_of, part_of}
use Rattle.blocks.proofs.Usual.{Rows, back}
use mathlib.Core.List.{map}
use Rattle.rows.proofs.Laws.Pixels.Values.{values-length}
use Rattle.blocks.specs.inner.Ready.{Windowed, PartIn}
use Rattle.blocks.specs.Order.{OrderPutAnswer, OrderPrepAnswer}
use Rattle.blocks.specs.inner.Order.{setting_of, lengths_of, OrderWindow}
use Rattle.blocks.proofs.Laws.Calls.Told.{passed}
use Rattle.blocks.proofs.Laws.Order.Run.{tables_of, Ordered, ordered_number, ordered, ordered_deep, order_part_lem, order_rows, put_on, prep_on}
use Rattle.blocks.proofs.Laws.Order.Run.{put_refused, put-done, prep-refused, prep-done, setting_passed, order_passed, put_passed, prep_passed}
use Rattle.blocks.specs.declared.frame.Reference.{Reference}
use Rattle.blocks.specs.declared.window.Part.{Part}
use Rattle.blocks.specs.declared.order.Order.{Order}
use Rattle.blocks.specs.declared.order.TableLengths.{TableLengths}
use Rattle.blocks.specs.declared.order.Kind.{Kind}

-- ---- an accepted call
module _ {deep named : Bool} {lent : Reference} {plane : List ℕ} {o : Order} {t : TableLengths} {scratch : List ℕ} {dl ds : ℕ} {r : Part} {filled : List ℕ}
    (w : OrderWindow deep named lent plane o t scratch dl ds r filled) (z : r.number ≡ 0) where
  -- with some tables of the lengths, at some depth
  some : Ordered (setting_of deep 0 lent plane (tables_of t).0) named o scratch dl ds r filled
  some = ordered 0 (tables_of t).0 (tables_of t).1 w z

  pub called_deep : deep ≡ true
  called_deep = ordered_deep some

  part_in : PartIn r (length plane) (length filled)
  part_in = order_part_lem some

  rows_in : {src : List ℕ} → src ≡ part_of r plane filled
      → Windowed o.kind (length src) r.stride o.w o.h t.subpel t.ext t.warp × Rows dl ds o.w o.h
  rows_in {src} from =
      let p = order_rows some from in
      (subst (λ (n : TableLengths). Windowed o.kind (length src) r.stride o.w o.h n.subpel n.ext n.warp) (tables_of t).1 p.0, p.1)

-- the same of pixels
module _ {P : Type 0} {value : P → ℕ} {values : List P → List ℕ} (each : (l : List P) → values l ≡ map value l) (plane filled : List P)
    {deep named : Bool} {lent : Reference} {o : Order} {t : TableLengths} {scratch : List ℕ} {dl ds : ℕ} {r : Part}
    (w : OrderWindow deep named lent (values plane) o t scratch dl ds r (values filled)) (z : r.number ≡ 0) where
  -- the part is in its buffer
  pub called_part : PartIn r (length plane) (length filled)
  called_part = let p = part_in w z in rw (values-length each plane, values-length each filled) at p

  -- what the kind's rows rely on
  pub called_rows : (src : List P) → values src ≡ part_of r (values plane) (values filled)
      → Windowed o.kind (length src) r.stride o.w o.h t.subpel t.ext t.warp × Rows dl ds o.w o.h
  called_rows src from = let p = rows_in w z from in rw (values-length each src) at p

-- ---- what a call answers
-- its numbers as they are passed on are what they were
pub record SameCall (deep deep' : Bool) (depth depth' : ℕ) (x x' y y' : ℤ) (k k' : Kind) : Type 0 where
  pub same_deep : deep ≡ deep'
  pub same_depth : depth ≡ depth'
  pub same_x : x ≡ x'
  pub same_y : y ≡ y'
  pub same_kind : k ≡ k'

pub passed_call : (ok : ℤ → Bool) (kind : ℕ) {deep : Bool} {k : Kind} {depth x y mx my t a b c d : ℤ} → SFits w32 depth → SFits w64 x → SFits w64 y
    → SFits w32 mx → SFits w32 my → SFits w32 t → SFits w16 a → SFits w16 b → SFits w16 c → SFits w16 d
    → deep ≡ ok (passed w32 depth)
    → k ≡ kind_of kind (passed w32 mx) (passed w32 my) (passed w32 t) (passed w16 a) (passed w16 b) (passed w16 c) (passed w16 d)
    → SameCall deep (ok depth) (up (passed w32 depth)) (up depth) (passed w64 x) x (passed w64 y) y k (kind_of kind mx my t a b c d)
passed_call ok kind fd fx fy mx my t a b c d deep k =
    record {
      same_deep = deep ∙ ap ok (back fd);
      same_depth = ap up (back fd);
      same_x = back fx;
      same_y = back fy;
      same_kind = rw (back mx, back my, back t, back a, back b, back c, back d) at k;
    }

module _ {deep deep' named : Bool} {depth depth' : ℕ} {lent : Reference} {plane : List ℕ} {x x' y y' : ℤ} {bw bh : ℕ} {k k' : Kind}
    {scratch : List ℕ} {dl ds : ℕ} {r : Part} {filled : List ℕ} (same : SameCall deep deep' depth depth' x x' y y' k k') (t : Tables)
    (w : OrderWindow deep named lent plane (record { x = x; y = y; w = bw; h = bh; kind = k }) (lengths_of t) scratch dl ds r filled) where
  abbrev handed : Order
  handed = record { x = x; y = y; w = bw; h = bh; kind = k }

  abbrev order : Order
  order = record { x = x'; y = y'; w = bw; h = bh; kind = k' }

  abbrev setting : Setting
  setting = setting_of deep' depth' lent plane t

  setting_is : setting_of deep depth lent plane t ≡ setting
  setting_is = setting_passed _ _ same.same_deep same.same_depth

  order_is : handed ≡ order
  order_is = order_passed _ _ same.same_x same.same_y same.same_kind

  -- n is the length of what is written
  answered : {n : ℕ} → dl ≡ n → OrderWindow deep named lent plane handed (lengths_of t) scratch n ds r filled
  answered e = subst (λ (m : ℕ). OrderWindow deep named lent plane handed (lengths_of t) scratch m ds r filled) e w

  -- refused, or with its block in dst
  pub put_left : (dst : List ℕ) → dl ≡ length dst → (r.number ≡ 0 → ⊥) → OrderPutAnswer setting named order scratch dst ds r.number filled dst
  put_left dst long other =
      let v = answered long in
      put_passed _ _ _ _ _ setting_is order_is _ _ (put_refused _ _ _ _ _ _ (ordered_number depth t refl v) v.full other)

  pub put_made : (dst : List ℕ) {src dst' : List ℕ} → dl ≡ length dst → r.number ≡ 0 → src ≡ part_of r plane filled
      → dst' ≡ fill dst ds bw bh (put_on depth t handed src r.stride) → OrderPutAnswer setting named order scratch dst ds r.number filled dst'
  put_made dst long z from new =
      let v = answered long in
      put_passed _ _ _ _ _ setting_is order_is _ _ (put-done _ _ _ _ _ _ (ordered_number depth t refl v) (ordered depth t refl v z) from new)

  -- or in tmp
  pub prep_left : (tmp : List ℤ) → dl ≡ length tmp → (r.number ≡ 0 → ⊥) → OrderPrepAnswer setting named order scratch tmp ds r.number filled tmp
  prep_left tmp long other =
      let v = answered long in
      prep_passed _ _ _ _ _ setting_is order_is _ _ (prep-refused _ _ _ _ _ _ (ordered_number depth t refl v) v.full other)

  pub prep_made : (tmp : List ℤ) {src : List ℕ} {tmp' : List ℤ} → dl ≡ length tmp → r.number ≡ 0 → src ≡ part_of r plane filled
      → tmp' ≡ fill tmp ds bw bh (prep_on depth t handed src r.stride) → OrderPrepAnswer setting named order scratch tmp ds r.number filled tmp'
  prep_made tmp long z from new =
      let v = answered long in
      prep_passed _ _ _ _ _ setting_is order_is _ _ (prep-done _ _ _ _ _ _ (ordered_number depth t refl v) (ordered depth t refl v z) from new)
