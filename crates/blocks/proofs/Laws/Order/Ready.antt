-- An order's tests in three parts, as the code makes them; and what its number 0 gives: an accepted window, and what the rows of its kind rely on.
-- Assumes nothing.
use Rattle.blocks.proofs.Usual.{true, Bool, List, [], ◌∷◌, ◌≡◌, ◌∙◌, refl, ℕ, ◌≤◌, ◌^◌, leb, nat_abs, length, Setting, kind_size_ok, motion_ok, filters_ok}
use Rattle.blocks.proofs.Usual.{lowest, Test, ◌asks◌, block_side, stride, size, number, read, written, holds, stride_ok, size_ok, whole_filters, LentPlane}
use Rattle.blocks.proofs.Usual.{window_tests, lent_w, lent_h, frame_names_ok, frame_sizes_ok, Rows, Block, and_true, rows_met, block_met, all_met, later}
use Rattle.blocks.proofs.Usual.{sooner}
use Rattle.blocks.specs.Refuse.{table, holds_all}
use Rattle.blocks.specs.Edge.{place_ok}
use Rattle.blocks.specs.Subpel.{subpel_ok}
use Rattle.blocks.specs.Warp.{warp_place_ok}
use Rattle.blocks.specs.Window.{window_side}
use Rattle.blocks.specs.Order.{kind_number, mode_of, asked_by, order_number}
use Rattle.blocks.specs.inner.Ready.{Windowed}
use Rattle.blocks.proofs.Laws.Calls.Refuse.{then, both_met}
use Rattle.blocks.proofs.Laws.Warp.Ready.{place_met}
use Rattle.blocks.proofs.Laws.Window.Ready.{met_window}
use Rattle.blocks.specs.declared.order.Order.{Order}
use Rattle.blocks.specs.declared.warp.Shears.{Shears}
use Rattle.blocks.specs.declared.order.Kind.{Kind}
use Rattle.blocks.specs.declared.order.Kind.TheVariants.{Copy, Subpel, Bilinear, Warp}

-- a warped block's mx and my
pub warp_near : (s : Shears) → motion_ok (Warp s) ≡ true → (nat_abs s.mx ≤ 2 ^ 20) × (nat_abs s.my ≤ 2 ^ 20)
unfolding motion_ok
warp_near s e = let p = and_true (warp_place_ok s.mx) (warp_place_ok s.my) e in (place_met _ p.0, place_met _ p.1)

-- ---- the three parts
abbrev pub shape_tests : LentPlane → Order → (dstStride : ℕ) → List Test
shape_tests p o dstStride =
    size asks frame_sizes_ok p.frame p.plane_no
    ∷ size asks size_ok block_side o.w
    ∷ size asks size_ok block_side o.h
    ∷ size asks kind_size_ok o.kind o.w o.h
    ∷ stride asks stride_ok (lent_w p) p.stride
    ∷ stride asks stride_ok o.w dstStride
    ∷ []

abbrev pub number_tests : (deep named : Bool) → LentPlane → Order → List Test
number_tests deep named p o =
    number asks deep
    ∷ number asks frame_names_ok p.frame p.plane_no
    ∷ number asks named
    ∷ number asks place_ok o.x
    ∷ number asks place_ok o.y
    ∷ number asks motion_ok o.kind
    ∷ []

abbrev pub lent_tests : Setting → Order → (sl dl dstStride : ℕ) → List Test
lent_tests s o sl dl dstStride =
    table asks subpel_ok (length s.tables.subpel)
    ∷ table asks whole_filters (length s.tables.ext)
    ∷ table asks whole_filters (length s.tables.warp)
    ∷ table asks filters_ok o.kind (length s.tables.ext) (length s.tables.warp)
    ∷ read asks holds (length s.lent.plane) s.lent.stride (lent_w s.lent) (lent_h s.lent)
    ∷ written asks holds_all sl (window_side (kind_number o.kind) o.w) (window_side (kind_number o.kind) o.h)
    ∷ written asks holds dl dstStride o.w o.h
    ∷ []

-- ---- what they tell, each test by its name
pub record ShapeMet (p : LentPlane) (o : Order) (ds : ℕ) : Type 0 where
  pub frame : frame_sizes_ok p.frame p.plane_no ≡ true
  pub width : size_ok block_side o.w ≡ true
  pub height : size_ok block_side o.h ≡ true
  pub kind : kind_size_ok o.kind o.w o.h ≡ true
  pub plane : stride_ok (lent_w p) p.stride ≡ true
  pub dst : stride_ok o.w ds ≡ true

pub shape_met : (p : LentPlane) (o : Order) (ds : ℕ) → lowest (shape_tests p o ds) ≡ 0 → ShapeMet p o ds
shape_met p o ds e =
    let (frame, (width, (height, (kind, (plane, (dst, none)))))) = all_met (shape_tests p o ds) e in
    record { frame = frame; width = width; height = height; kind = kind; plane = plane; dst = dst }

pub record NumbersMet (d n : Bool) (p : LentPlane) (o : Order) : Type 0 where
  pub deep : d ≡ true
  pub names : frame_names_ok p.frame p.plane_no ≡ true
  pub named : n ≡ true
  pub across : place_ok o.x ≡ true
  pub down : place_ok o.y ≡ true
  pub motion : motion_ok o.kind ≡ true

pub numbers_met : (deep named : Bool) (p : LentPlane) (o : Order) → lowest (number_tests deep named p o) ≡ 0 → NumbersMet deep named p o
numbers_met deep named p o e =
    let (depth, (names, (kind, (across, (down, (motion, none)))))) = all_met (number_tests deep named p o) e in
    record { deep = depth; names = names; named = kind; across = across; down = down; motion = motion }

pub record LentMet (s : Setting) (o : Order) (sl dl ds : ℕ) : Type 0 where
  pub subpel : subpel_ok (length s.tables.subpel) ≡ true
  pub ext : whole_filters (length s.tables.ext) ≡ true
  pub warp : whole_filters (length s.tables.warp) ≡ true
  pub filters : filters_ok o.kind (length s.tables.ext) (length s.tables.warp) ≡ true
  pub plane : holds (length s.lent.plane) s.lent.stride (lent_w s.lent) (lent_h s.lent) ≡ true
  pub scratch : holds_all sl (window_side (kind_number o.kind) o.w) (window_side (kind_number o.kind) o.h) ≡ true
  pub dst : holds dl ds o.w o.h ≡ true

pub lent_met : (s : Setting) (o : Order) (sl dl ds : ℕ) → lowest (lent_tests s o sl dl ds) ≡ 0 → LentMet s o sl dl ds
lent_met s o sl dl ds e =
    let (subpel, (ext, (warp, (filters, (plane, (scratch, (dst, none))))))) = all_met (lent_tests s o sl dl ds) e in
    record { subpel = subpel; ext = ext; warp = warp; filters = filters; plane = plane; scratch = scratch; dst = dst }

pub shape_block : {p : LentPlane} {o : Order} {ds : ℕ} → ShapeMet p o ds → Block o.w o.h
shape_block {o = o} m = block_met o.w o.h m.width m.height

module _ (s : Setting) (named : Bool) (o : Order) (sl dl ds : ℕ) where
  abbrev shape : List Test
  shape = shape_tests s.lent o ds

  abbrev numbers : List Test
  numbers = number_tests s.deep named s.lent o

  abbrev lent : List Test
  lent = lent_tests s o sl dl ds

  -- the number is that of the first part that refuses
  pub shape_stop : (lowest shape ≡ 0 → ⊥) → lowest shape ≡ order_number s named o sl dl ds
  shape_stop h = sooner shape (then numbers (lowest lent)) h

  pub numbers_stop : lowest shape ≡ 0 → (lowest numbers ≡ 0 → ⊥) → lowest numbers ≡ order_number s named o sl dl ds
  numbers_stop e h = sooner numbers (lowest lent) h ∙ later shape (then numbers (lowest lent)) e

  pub order_go : lowest shape ≡ 0 → lowest numbers ≡ 0 → lowest lent ≡ order_number s named o sl dl ds
  order_go e k = later numbers (lowest lent) k ∙ later shape (then numbers (lowest lent)) e

-- ---- what an order's number 0 gives: the three parts
pub record OrderMet (s : Setting) (named : Bool) (o : Order) (sl dl ds : ℕ) : Type 0 where
  pub shape : ShapeMet s.lent o ds
  pub numbers : NumbersMet s.deep named s.lent o
  pub lent : LentMet s o sl dl ds

pub order_met : (s : Setting) (named : Bool) (o : Order) (sl dl ds : ℕ) → order_number s named o sl dl ds ≡ 0 → OrderMet s named o sl dl ds
order_met s named o sl dl ds e =
    let rest = lowest (lent_tests s o sl dl ds) in
    let p = both_met (shape_tests s.lent o ds) (then (number_tests s.deep named s.lent o) rest) e in
    let q = both_met (number_tests s.deep named s.lent o) rest p.1 in
    record { shape = shape_met _ _ _ p.0; numbers = numbers_met _ _ _ _ q.0; lent = lent_met _ _ _ _ _ q.1 }

module _ {s : Setting} {named : Bool} {o : Order} {sl dl ds : ℕ} (m : OrderMet s named o sl dl ds) where
  -- the window's tests are among the order's, but for its kind, which is one of the four, and the mode
  pub order_window : lowest (window_tests s.lent (asked_by o) sl) ≡ 0
  order_window =
      met_window s.lent (asked_by o) sl (record {
        frame = m.shape.frame;
        width = m.shape.width;
        height = m.shape.height;
        carries = m.shape.plane;
        names = m.numbers.names;
        kind = four o.kind;
        across = m.numbers.across;
        down = m.numbers.down;
        mode = either o.kind;
        plane = m.lent.plane;
        scratch = m.lent.scratch;
      }) where
        four : (k : Kind) → leb (kind_number k) 3 ≡ true
        four Copy = refl
        four (Subpel m) = refl
        four (Bilinear m) = refl
        four (Warp s) = refl

        either : (k : Kind) → leb (mode_of k) 1 ≡ true
        either Copy = refl
        either (Subpel m) = refl
        either (Bilinear m) = refl
        either (Warp s) = refl

  pub order_block : Block o.w o.h
  order_block = shape_block m.shape

  pub order_dst_lem : Rows dl ds o.w o.h
  order_dst_lem = rows_met dl ds o.w o.h m.shape.dst m.lent.dst

  -- with the source that its window is
  pub order_windowed : {l a : ℕ} → Rows l a (window_side (kind_number o.kind) o.w) (window_side (kind_number o.kind) o.h)
      → Windowed o.kind l a o.w o.h (length s.tables.subpel) (length s.tables.ext) (length s.tables.warp)
  order_windowed src =
      record {
        block = order_block;
        size = m.shape.kind;
        src = src;
        motion = m.numbers.motion;
        subpel = m.lent.subpel;
        filters = m.lent.filters;
      }
