-- Demand 3 as one theorem about each C function that runs orders. The premises are the function's contract, word for word (crates/blocks_c/proofs/Told/Orders.antt), of each call, each answering 0.
-- Assumes nothing.
use mathlib.Core.Path.{◌≡◌, refl, sym}
use mathlib.Core.Bool.{Bool, true, false, true≢false}
use mathlib.Core.List.{List}
use Prim.Native.Nat.{ℕ, zero, suc, ◌≤◌}
use native.Mathlib.Omega.{arith}
use lib.Dec.{leb}
use lib.IntN.{ℤ}
use borrow.Author.Tests.{le-leb}
use Rattle.rows.specs.Numbers.{up}
use Rattle.rows.specs.Cut.{Rect, Each, Cut, SameSide}
use Rattle.blocks.specs.words.Depth.{depth_ok}
use Rattle.blocks.specs.Order.{kind_of, Setting, endless_put, endless_prep, OrderPutAnswer, OrderPrepAnswer}
use Rattle.blocks.specs.Cut.{unwarped}
use Rattle.blocks.specs.declared.order.Order.{Order}
use Rattle.blocks.proofs.Laws.Cut.Demand.{CutBlock}
use Rattle.blocks.proofs.Laws.Cut.Places.{Predicted, PutSays, PutCalls, put_says, order_tells, calls_predicted, PrepSays, PrepCall, AllPrepped, prep_says}
use Rattle.blocks.proofs.Laws.Cut.Places.{order_prep_tells, all_prepped}

-- 0 copied, 1 8-tap, 2 bilinear
kind-unwarped : (kind : ℕ) (mx my filterType a b c d : ℤ) → kind ≤ 2 → unwarped (kind_of kind mx my filterType a b c d) ≡ true
unfolding kind_of unwarped
kind-unwarped zero mx my filterType a b c d e = refl
kind-unwarped (suc zero) mx my filterType a b c d e = refl
kind-unwarped (suc (suc zero)) mx my filterType a b c d e = refl
kind-unwarped (suc (suc (suc n))) mx my filterType a b c d e = absurd (omega arith)

-- the contracts name the outcome of the kind's test, which is true
module _ (s : Setting) (o : Order) (rs : List Rect) (block : CutBlock o rs) where
  put_named : (named : Bool) → named ≡ true → (stride : ℕ) (dst dst' : List ℕ) → o.w ≤ stride
      → PutCalls (put_says s named o.kind) o.x o.y stride rs dst dst' → Predicted o.w o.h stride (endless_put s o) dst dst'
  put_named true e stride dst dst' carries calls =
      calls_predicted s o stride (put_says s true o.kind) (order_tells s o.kind) rs dst dst' block carries calls
  put_named false e stride dst dst' carries calls = absurd (true≢false (sym e))

  prep_named : (named : Bool) → named ≡ true → (calls : Each (PrepCall (prep_says s named o.kind) o.x o.y) rs)
      → AllPrepped (prep_says s named o.kind) o.x o.y (endless_prep s o) o.w o.h rs calls
  prep_named true e calls = all_prepped s o (prep_says s true o.kind) (order_prep_tells s o.kind) rs block calls
  prep_named false e calls = absurd (true≢false (sym e))

-- ---- calls at one depth, on one plane and by one motion: what isn't the rectangle's own stays from call to call
module _ (deep : Bool) (depth luma_w luma_h : ℕ) (ss_hor ss_ver : Bool) (plane_no : ℕ) (plane : List ℕ) (plane_stride kind : ℕ)
    (mx my filter_type a b c d : ℤ) (subpel ext warp : List ℤ) where
  -- what they share, and an order of theirs
  abbrev pub shared : Setting
  shared =
      record {
        deep = deep;
        depth = depth;
        lent = record {
          frame = record { luma_w = luma_w; luma_h = luma_h; ss_hor = ss_hor; ss_ver = ss_ver };
          plane_no = plane_no;
          plane = plane;
          stride = plane_stride;
        };
        tables = record { subpel = subpel; ext = ext; warp = warp };
      }

  abbrev pub order : (x y : ℤ) (w h : ℕ) → Order
  order x y w h = record { x = x; y = y; w = w; h = h; kind = kind_of kind mx my filter_type a b c d }

  -- what hv_order_put says of a call
  abbrev pub put : PutSays
  put x y w h scratch dst dst_stride r scratch' dst' = OrderPutAnswer shared (leb kind 3) (order x y w h) scratch dst dst_stride r scratch' dst'

  -- what hv_order_prep says of a call
  abbrev pub prep : PrepSays
  prep x y w h scratch tmp tmp_stride r scratch' tmp' = OrderPrepAnswer shared (leb kind 3) (order x y w h) scratch tmp tmp_stride r scratch' tmp'

  -- a block that isn't warped, and its cut
  module _ (x y : ℤ) (w h : ℕ) (rs : List Rect) (unwarp : kind ≤ 2) (cut : Cut w h rs) (sides : Each (SameSide w h) rs) where
    block : CutBlock (order x y w h) rs
    block = record { kind = kind-unwarped kind mx my filter_type a b c d unwarp; cut = cut; sides = sides }

    -- hv_order_put, called for each rectangle of the cut and answering 0 each time, leaves in dst the block predicted on the endless plane,
    -- and no pixel outside it changes
    pub cut_put : (stride : ℕ) (dst dst' : List ℕ) → w ≤ stride → PutCalls put x y stride rs dst dst'
        → Predicted w h stride (endless_put shared (order x y w h)) dst dst'
    cut_put stride dst dst' carries calls =
        put_named shared (order x y w h) rs block (leb kind 3) (le-leb kind 3 (omega arith)) stride dst dst' carries calls

    -- hv_order_prep, called for each rectangle into a tmp of its own and answering 0 each time, leaves each pixel of the block predicted on the
    -- endless plane in the tmp of a rectangle that has it, and no place of a tmp outside its rectangle changes
    pub cut_prep : (calls : Each (PrepCall prep x y) rs) → AllPrepped prep x y (endless_prep shared (order x y w h)) w h rs calls
    cut_prep calls = prep_named shared (order x y w h) rs block (leb kind 3) (le-leb kind 3 (omega arith)) calls

-- ---- the 16-bit set, at each of its depths
module _ (depth : ℤ) (luma_w luma_h : ℕ) (ss_hor ss_ver : Bool) (plane_no : ℕ) (plane : List ℕ) (plane_stride kind : ℕ)
    (mx my filter_type a b c d : ℤ) (subpel ext warp : List ℤ) where
  abbrev pub put16 : PutSays
  put16 = put (depth_ok depth) (up depth) luma_w luma_h ss_hor ss_ver plane_no plane plane_stride kind mx my filter_type a b c d subpel ext warp

  abbrev pub prep16 : PrepSays
  prep16 = prep (depth_ok depth) (up depth) luma_w luma_h ss_hor ss_ver plane_no plane plane_stride kind mx my filter_type a b c d subpel ext warp

  abbrev pub set16 : Setting
  set16 = shared (depth_ok depth) (up depth) luma_w luma_h ss_hor ss_ver plane_no plane plane_stride kind mx my filter_type a b c d subpel ext warp

  abbrev pub order16 : (x y : ℤ) (w h : ℕ) → Order
  order16 = order (depth_ok depth) (up depth) luma_w luma_h ss_hor ss_ver plane_no plane plane_stride kind mx my filter_type a b c d subpel ext warp

  module _ (x y : ℤ) (w h : ℕ) (rs : List Rect) (unwarp : kind ≤ 2) (cut : Cut w h rs) (sides : Each (SameSide w h) rs) where
    pub cut_put_16bpc : (stride : ℕ) (dst dst' : List ℕ) → w ≤ stride → PutCalls put16 x y stride rs dst dst'
        → Predicted w h stride (endless_put set16 (order16 x y w h)) dst dst'
    cut_put_16bpc = cut_put (depth_ok depth) (up depth) luma_w luma_h ss_hor ss_ver plane_no plane plane_stride kind mx my filter_type a b c d subpel ext warp x y w h rs unwarp cut sides

    pub cut_prep_16bpc : (calls : Each (PrepCall prep16 x y) rs) → AllPrepped prep16 x y (endless_prep set16 (order16 x y w h)) w h rs calls
    cut_prep_16bpc = cut_prep (depth_ok depth) (up depth) luma_w luma_h ss_hor ss_ver plane_no plane plane_stride kind mx my filter_type a b c d subpel ext warp x y w h rs unwarp cut sides

-- ---- the byte set, at its one depth
module _ (luma_w luma_h : ℕ) (ss_hor ss_ver : Bool) (plane_no : ℕ) (plane : List ℕ) (plane_stride kind : ℕ)
    (mx my filter_type a b c d : ℤ) (subpel ext warp : List ℤ) where
  abbrev pub put8 : PutSays
  put8 = put true 8 luma_w luma_h ss_hor ss_ver plane_no plane plane_stride kind mx my filter_type a b c d subpel ext warp

  abbrev pub prep8 : PrepSays
  prep8 = prep true 8 luma_w luma_h ss_hor ss_ver plane_no plane plane_stride kind mx my filter_type a b c d subpel ext warp

  abbrev pub set8 : Setting
  set8 = shared true 8 luma_w luma_h ss_hor ss_ver plane_no plane plane_stride kind mx my filter_type a b c d subpel ext warp

  abbrev pub order8 : (x y : ℤ) (w h : ℕ) → Order
  order8 = order true 8 luma_w luma_h ss_hor ss_ver plane_no plane plane_stride kind mx my filter_type a b c d subpel ext warp

  module _ (x y : ℤ) (w h : ℕ) (rs : List Rect) (unwarp : kind ≤ 2) (cut : Cut w h rs) (sides : Each (SameSide w h) rs) where
    pub cut_put_8bpc : (stride : ℕ) (dst dst' : List ℕ) → w ≤ stride → PutCalls put8 x y stride rs dst dst'
        → Predicted w h stride (endless_put set8 (order8 x y w h)) dst dst'
    cut_put_8bpc = cut_put true 8 luma_w luma_h ss_hor ss_ver plane_no plane plane_stride kind mx my filter_type a b c d subpel ext warp x y w h rs unwarp cut sides

    pub cut_prep_8bpc : (calls : Each (PrepCall prep8 x y) rs) → AllPrepped prep8 x y (endless_prep set8 (order8 x y w h)) w h rs calls
    cut_prep_8bpc = cut_prep true 8 luma_w luma_h ss_hor ss_ver plane_no plane plane_stride kind mx my filter_type a b c d subpel ext warp x y w h rs unwarp cut sides
