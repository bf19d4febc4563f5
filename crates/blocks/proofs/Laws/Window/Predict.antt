-- Fetch, then predict, by separate calls: what a window's call answered 0 for, in either mode, shows the endless plane, so a kernel that is handed that part
-- at the block's first pixel gives the block on the endless plane. It is what one order gives (demand 3's endless_put and endless_prep). Assumes nothing.
use Rattle.blocks.proofs.Usual.{true, Bool, List, ◌≡◌, ◌∙◌, refl, sym, ap, ℕ, ◌≤◌, ◌*◌, ◌+◌, ◌<◌, arith, pos, ℤ, length, get_or, up, bits_of, bias_of}
use Rattle.blocks.proofs.Usual.{max_of, pixel, fill, around, Tables, put_rule, LentPlane, Asked, window_of, part_of, before, size_ok, block_side, stride_ok}
use Rattle.blocks.proofs.Usual.{all_met, size_met, stride_met, done, fill_same}
use Rattle.rows.specs.Copy.{put, prep}
use Rattle.rows.specs.Bilinear.{put_bilin, prep_bilin}
use Rattle.rows.specs.Edge.{around_at}
use Rattle.blocks.specs.Copy.{put_tests, prep_tests, PutAnswer, PrepAnswer}
use Rattle.blocks.specs.Subpel.{subpel_tests, Put8Answer, Prep8Answer}
use Rattle.blocks.specs.Bilinear.{bilin_tests, PutBilinAnswer, PrepBilinAnswer}
use Rattle.blocks.specs.Warp.{warp_tests, WarpAnswer, WarpTAnswer}
use Rattle.blocks.specs.Window.{around_part, window_side, WindowAnswer}
use Rattle.blocks.specs.Order.{kind_number, prep_rule, put_picture, prep_picture, plane_of}
use Rattle.blocks.proofs.Laws.Window.Ready.{window_number}
use Rattle.blocks.proofs.Laws.Window.Holds.{Picked, picked}
use Rattle.blocks.proofs.Laws.Cut.Local.{put_rule_local, prep_rule_local}
use Rattle.blocks.specs.declared.window.Part.{Part}
use Rattle.blocks.specs.declared.order.Order.{Order}
use Rattle.blocks.specs.declared.subpel.plan.SubpelMotion.{SubpelMotion}
use Rattle.blocks.specs.declared.order.BilinMotion.{BilinMotion}
use Rattle.blocks.specs.declared.warp.Shears.{Shears}
use Rattle.blocks.specs.declared.order.Kind.{Kind}
use Rattle.blocks.specs.declared.order.Kind.TheVariants.{Copy, Subpel, Bilinear, Warp}

-- the window of an order's block, in either mode
abbrev pub asked_in : (mode : ℕ) → Order → Asked
asked_in mode o = record { kind = kind_number o.kind; w = o.w; h = o.h; x = o.x; y = o.y; mode = mode }

-- the part that a window's answers name
abbrev pub named_part : (buffer place apart len : ℕ) (plane scratch : List ℕ) → List ℕ
named_part buffer place apart len plane scratch =
    part_of (record { number = 0; buffer = buffer; place = place; stride = apart; len = len }) plane scratch

-- ---- the window: the pixels around each place of the block in the named part are the endless plane's
module _ (p : LentPlane) (q : Asked) (scratch : List ℕ) {buffer place apart len : ℕ} {scratch' : List ℕ}
    (a : WindowAnswer p q scratch 0 buffer place apart len scratch') where
  pub window_picked : Picked q (plane_of p) (named_part buffer place apart len p.plane scratch') apart
  window_picked =
      let (number, first, start, rows, long) = a.0 in
      let r : Part = record { number = 0; buffer = buffer; place = place; stride = apart; len = len } in
      let is : r ≡ window_of p q (length scratch) = rw (number, first, start, rows, long) refl in
      picked p q scratch (sym (window_number p q (length scratch)) ∙ sym number) r scratch' _ is a.1 refl

  pub window_around : (i j c d : ℕ) → i < q.w → j < q.h → c < window_side q.kind 1 → d < window_side q.kind 1
      → around_part q.kind (named_part buffer place apart len p.plane scratch') apart i j c d
      ≡ around_at (before q.kind) (plane_of p) q.x q.y i j c d
  window_around i j c d wi hj kc kd = window_picked.same i j c d wi hj kc kd

-- a part that a window's call named: what the second call hands back
pub record Fetched (p : LentPlane) (q : Asked) (part : List ℕ) (apart : ℕ) : Type 0 where
  pub scratch : List ℕ
  pub scratch' : List ℕ
  pub buffer : ℕ
  pub place : ℕ
  pub len : ℕ
  pub answer : WindowAnswer p q scratch 0 buffer place apart len scratch'
  pub is : part ≡ named_part buffer place apart len p.plane scratch'

pub fetched_picked : {p : LentPlane} {q : Asked} {part : List ℕ} {apart : ℕ} → Fetched p q part apart → Picked q (plane_of p) part apart
fetched_picked {p} {q} f = rw f.is (window_picked p q f.scratch f.answer)

-- ---- a kernel's rows on a source that shows the plane g around a block: the block on g
module _ (depth : ℕ) (t : Tables) (o : Order) {mode : ℕ} {g : ℤ → ℤ → ℕ} {src : List ℕ} {s : ℕ} (p : Picked (asked_in mode o) g src s)
    {ds : ℕ} (some : 1 ≤ ds) where
  put_shown : (dst : List ℕ)
      → fill dst ds o.w o.h (λ i j. put_rule (max_of depth) (bits_of depth) t.subpel t.ext t.warp o.kind o.w o.h i j
      (around_part (kind_number o.kind) src s i j))
      ≡ fill dst ds o.w o.h (put_picture depth t o g)
  unfolding put_picture
  put_shown dst =
      fill_same 0 ds some dst o.w o.h _ _ λ i j wi hj.
      put_rule_local _ _ t.subpel t.ext t.warp _ _ o.kind _ _ i j λ a b. p.same i j a b wi hj

  prep_shown : (tmp : List ℤ)
      → fill tmp ds o.w o.h (λ i j. prep_rule (bits_of depth) (bias_of depth) t.subpel t.ext t.warp o.kind o.w o.h i j
      (around_part (kind_number o.kind) src s i j))
      ≡ fill tmp ds o.w o.h (prep_picture depth t o g)
  unfolding prep_picture
  prep_shown tmp =
      fill_same (pos 0) ds some tmp o.w o.h _ _ λ i j wi hj.
      prep_rule_local _ _ t.subpel t.ext t.warp _ _ o.kind _ _ i j λ a b. p.same i j a b wi hj

-- an accepted call's stride
some_stride : (w ds : ℕ) → size_ok block_side w ≡ true → stride_ok w ds ≡ true → 1 ≤ ds
some_stride w ds a b = omega (arith, size_met block_side w a, stride_met w ds b)

-- with no margin, a block's first pixel is the part's
first-pixel : (src : List ℕ) (s i j : ℕ) → pixel src s i j ≡ around 0 src (0 * s + 0) s i j 0 0
unfolding around
first-pixel src s i j = ap (λ (k : ℕ). get_or src k 0) (omega arith)

first_place : (s : ℕ) → 0 ≡ 0 * s + 0
first_place s = omega arith

-- the order of a block of w x h at x and y
abbrev pub block_at : (x y : ℤ) (w h : ℕ) → Kind → Order
block_at x y w h k = record { x = x; y = y; w = w; h = h; kind = k }

module _ (depth : ℕ) (t : Tables) (x y : ℤ) (w h ds : ℕ) {mode : ℕ} {g : ℤ → ℤ → ℕ} {src : List ℕ} {s : ℕ} where
  -- 8-tap
  module _ (m : SubpelMotion) (p : Picked (asked_in mode (block_at x y w h (Subpel m))) g src s) (deep : Bool) where
    pub put8-on : (dst : List ℕ) {dst' : List ℕ}
        → Put8Answer deep depth dst ds src (3 * s + 3) s w h m.mx m.my m.filter_type t.subpel t.ext 0 dst'
        → dst' ≡ fill dst ds w h (put_picture depth t (block_at x y w h (Subpel m)) g)
    unfolding put_rule before
    put8-on dst a =
        let k = all_met (subpel_tests deep (length dst) ds (length src) (3 * s + 3) s w h m.mx m.my m.filter_type
        (length t.subpel) (length t.ext)) (sym a.0) in
        a.1 ∙ done 0 _ dst refl ∙ put_shown depth t (block_at x y w h (Subpel m)) p (some_stride w ds k.0 k.1.1.0) dst

    pub prep8-on : (tmp : List ℤ) {tmp' : List ℤ}
        → Prep8Answer deep depth tmp ds src (3 * s + 3) s w h m.mx m.my m.filter_type t.subpel t.ext 0 tmp'
        → tmp' ≡ fill tmp ds w h (prep_picture depth t (block_at x y w h (Subpel m)) g)
    unfolding prep_rule before
    prep8-on tmp a =
        let k = all_met (subpel_tests deep (length tmp) ds (length src) (3 * s + 3) s w h m.mx m.my m.filter_type
        (length t.subpel) (length t.ext)) (sym a.0) in
        a.1 ∙ done 0 _ tmp refl ∙ prep_shown depth t (block_at x y w h (Subpel m)) p (some_stride w ds k.0 k.1.1.0) tmp

  -- bilinear
  module _ (m : BilinMotion) (p : Picked (asked_in mode (block_at x y w h (Bilinear m))) g src s) (deep : Bool) where
    pub put_bilin-on : (dst : List ℕ) {dst' : List ℕ} → PutBilinAnswer deep depth dst ds src s w h m.mx m.my 0 dst'
        → dst' ≡ fill dst ds w h (put_picture depth t (block_at x y w h (Bilinear m)) g)
    unfolding put_rule before
    put_bilin-on dst a =
        let k = all_met (bilin_tests deep (length dst) ds (length src) s w h m.mx m.my) (sym a.0) in
        a.1 ∙ done 0 _ dst refl
        ∙ ap (λ (k : ℕ). fill dst ds w h (λ i j. put_bilin (max_of depth) (bits_of depth) (up m.mx) (up m.my) (around 0 src k s i j))) (first_place s)
        ∙ put_shown depth t (block_at x y w h (Bilinear m)) p (some_stride w ds k.0 k.1.1.0) dst

    pub prep_bilin-on : (tmp : List ℤ) {tmp' : List ℤ} → PrepBilinAnswer deep depth tmp ds src s w h m.mx m.my 0 tmp'
        → tmp' ≡ fill tmp ds w h (prep_picture depth t (block_at x y w h (Bilinear m)) g)
    unfolding prep_rule before
    prep_bilin-on tmp a =
        let k = all_met (bilin_tests deep (length tmp) ds (length src) s w h m.mx m.my) (sym a.0) in
        a.1 ∙ done 0 _ tmp refl
        ∙ ap (λ (k : ℕ). fill tmp ds w h (λ i j. prep_bilin (bits_of depth) (bias_of depth) (up m.mx) (up m.my) (around 0 src k s i j))) (first_place s)
        ∙ prep_shown depth t (block_at x y w h (Bilinear m)) p (some_stride w ds k.0 k.1.1.0) tmp

  -- copy
  module _ (p : Picked (asked_in mode (block_at x y w h Copy)) g src s) where
    pub put_on_lem : (dst : List ℕ) {dst' : List ℕ} → PutAnswer dst ds src s w h 0 dst'
        → dst' ≡ fill dst ds w h (put_picture depth t (block_at x y w h Copy) g)
    unfolding put_rule before
    put_on_lem dst a =
        let k = all_met (put_tests (length dst) ds (length src) s w h) (sym a.0) in
        let some = some_stride w ds k.0 k.1.1.0 in
        a.1 ∙ done 0 _ dst refl
        ∙ fill_same 0 ds some dst w h _ _ (λ i j wi hj. ap put (first-pixel src s i j))
        ∙ put_shown depth t (block_at x y w h Copy) p some dst

    pub prep-on : (deep : Bool) (tmp : List ℤ) {tmp' : List ℤ} → PrepAnswer deep depth tmp ds src s w h 0 tmp'
        → tmp' ≡ fill tmp ds w h (prep_picture depth t (block_at x y w h Copy) g)
    unfolding prep_rule before
    prep-on deep tmp a =
        let k = all_met (prep_tests deep (length tmp) ds (length src) s w h) (sym a.0) in
        let some = some_stride w ds k.0 k.1.1.0 in
        a.1 ∙ done 0 _ tmp refl
        ∙ fill_same (pos 0) ds some tmp w h _ _ (λ i j wi hj. ap (prep (bits_of depth) (bias_of depth)) (first-pixel src s i j))
        ∙ prep_shown depth t (block_at x y w h Copy) p some tmp

-- warp, whose block is of 8 x 8
module _ (depth : ℕ) (t : Tables) (x y : ℤ) (ds : ℕ) {mode : ℕ} {g : ℤ → ℤ → ℕ} {src : List ℕ} {s : ℕ} (m : Shears)
    (p : Picked (asked_in mode (block_at x y 8 8 (Warp m))) g src s) (deep : Bool) where
  pub warp-on : (dst : List ℕ) {dst' : List ℕ}
      → WarpAnswer deep depth dst ds src s (3 * s + 3) m.a m.b m.c m.d m.mx m.my t.warp 0 dst'
      → dst' ≡ fill dst ds 8 8 (put_picture depth t (block_at x y 8 8 (Warp m)) g)
  unfolding put_rule before
  warp-on dst a =
      let k = all_met (warp_tests deep (length dst) ds (length src) s (3 * s + 3) m.a m.b m.c m.d m.mx m.my
      (length t.warp)) (sym a.0) in
      a.1 ∙ done 0 _ dst refl ∙ put_shown depth t (block_at x y 8 8 (Warp m)) p (omega (arith, stride_met 8 ds k.0)) dst

  pub warp_t_on : (tmp : List ℤ) {tmp' : List ℤ}
      → WarpTAnswer deep depth tmp ds src s (3 * s + 3) m.a m.b m.c m.d m.mx m.my t.warp 0 tmp'
      → tmp' ≡ fill tmp ds 8 8 (prep_picture depth t (block_at x y 8 8 (Warp m)) g)
  unfolding prep_rule before
  warp_t_on tmp a =
      let k = all_met (warp_tests deep (length tmp) ds (length src) s (3 * s + 3) m.a m.b m.c m.d m.mx m.my
      (length t.warp)) (sym a.0) in
      a.1 ∙ done 0 _ tmp refl ∙ prep_shown depth t (block_at x y 8 8 (Warp m)) p (omega (arith, stride_met 8 ds k.0)) tmp

-- ---- the window's call, then the kernel's, in either mode: the block on the endless plane
module _ (p : LentPlane) (depth : ℕ) (t : Tables) (x y : ℤ) (w h ds : ℕ) {mode : ℕ} {part : List ℕ} {apart : ℕ} where
  pub window_put : Fetched p (asked_in mode (block_at x y w h Copy)) part apart → (dst : List ℕ) {dst' : List ℕ}
      → PutAnswer dst ds part apart w h 0 dst'
      → dst' ≡ fill dst ds w h (put_picture depth t (block_at x y w h Copy) (plane_of p))
  window_put f dst a = put_on_lem depth t x y w h ds (fetched_picked f) dst a

  pub window_prep : (deep : Bool) → Fetched p (asked_in mode (block_at x y w h Copy)) part apart → (tmp : List ℤ) {tmp' : List ℤ}
      → PrepAnswer deep depth tmp ds part apart w h 0 tmp'
      → tmp' ≡ fill tmp ds w h (prep_picture depth t (block_at x y w h Copy) (plane_of p))
  window_prep deep f tmp a = prep-on depth t x y w h ds (fetched_picked f) deep tmp a

  pub window_put8 : (m : SubpelMotion) (deep : Bool) → Fetched p (asked_in mode (block_at x y w h (Subpel m))) part apart
      → (dst : List ℕ) {dst' : List ℕ}
      → Put8Answer deep depth dst ds part (3 * apart + 3) apart w h m.mx m.my m.filter_type t.subpel t.ext 0 dst'
      → dst' ≡ fill dst ds w h (put_picture depth t (block_at x y w h (Subpel m)) (plane_of p))
  window_put8 m deep f dst a = put8-on depth t x y w h ds m (fetched_picked f) deep dst a

  pub window_prep8 : (m : SubpelMotion) (deep : Bool) → Fetched p (asked_in mode (block_at x y w h (Subpel m))) part apart
      → (tmp : List ℤ) {tmp' : List ℤ}
      → Prep8Answer deep depth tmp ds part (3 * apart + 3) apart w h m.mx m.my m.filter_type t.subpel t.ext 0 tmp'
      → tmp' ≡ fill tmp ds w h (prep_picture depth t (block_at x y w h (Subpel m)) (plane_of p))
  window_prep8 m deep f tmp a = prep8-on depth t x y w h ds m (fetched_picked f) deep tmp a

  pub window_put_bilin : (m : BilinMotion) (deep : Bool) → Fetched p (asked_in mode (block_at x y w h (Bilinear m))) part apart
      → (dst : List ℕ) {dst' : List ℕ}
      → PutBilinAnswer deep depth dst ds part apart w h m.mx m.my 0 dst'
      → dst' ≡ fill dst ds w h (put_picture depth t (block_at x y w h (Bilinear m)) (plane_of p))
  window_put_bilin m deep f dst a = put_bilin-on depth t x y w h ds m (fetched_picked f) deep dst a

  pub window_prep_bilin : (m : BilinMotion) (deep : Bool) → Fetched p (asked_in mode (block_at x y w h (Bilinear m))) part apart
      → (tmp : List ℤ) {tmp' : List ℤ}
      → PrepBilinAnswer deep depth tmp ds part apart w h m.mx m.my 0 tmp'
      → tmp' ≡ fill tmp ds w h (prep_picture depth t (block_at x y w h (Bilinear m)) (plane_of p))
  window_prep_bilin m deep f tmp a = prep_bilin-on depth t x y w h ds m (fetched_picked f) deep tmp a

module _ (p : LentPlane) (depth : ℕ) (t : Tables) (x y : ℤ) (ds : ℕ) {mode : ℕ} {part : List ℕ} {apart : ℕ} (m : Shears) (deep : Bool) where
  pub window_warp : Fetched p (asked_in mode (block_at x y 8 8 (Warp m))) part apart → (dst : List ℕ) {dst' : List ℕ}
      → WarpAnswer deep depth dst ds part apart (3 * apart + 3) m.a m.b m.c m.d m.mx m.my t.warp 0 dst'
      → dst' ≡ fill dst ds 8 8 (put_picture depth t (block_at x y 8 8 (Warp m)) (plane_of p))
  window_warp f dst a = warp-on depth t x y ds m (fetched_picked f) deep dst a

  pub window_warp_t : Fetched p (asked_in mode (block_at x y 8 8 (Warp m))) part apart → (tmp : List ℤ) {tmp' : List ℤ}
      → WarpTAnswer deep depth tmp ds part apart (3 * apart + 3) m.a m.b m.c m.d m.mx m.my t.warp 0 tmp'
      → tmp' ≡ fill tmp ds 8 8 (prep_picture depth t (block_at x y 8 8 (Warp m)) (plane_of p))
  window_warp_t f tmp a = warp_t_on depth t x y ds m (fetched_picked f) deep tmp a
