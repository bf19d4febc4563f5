-- Prediction orders: their numbers, and their pixels on the endless plane. Assumes nothing.
use Rattle.std.specs.Prelude.{ℕ, ◌/◌, eqb, ℤ, Bool, true, ◌&&◌, List, [], ◌∷◌, ◌≡◌, length}
use Rattle.rows.specs.Numbers.{up}
use Rattle.rows.specs.Depth.{bits_of, bias_of, max_of}
use Rattle.rows.specs.Places.{pick, fill}
use Rattle.rows.specs.Copy.{put, prep}
use Rattle.rows.specs.Bilinear.{put_bilin, prep_bilin}
use Rattle.rows.specs.Warp.{all_there, warp_put, warp_prep}
use Rattle.rows.specs.Edge.{endless, around_at}
use Rattle.blocks.specs.Refuse.{Test, size, stride, number, table, read, written, ◌asks◌, lowest, or_same, size_ok, block_side, stride_ok, holds}
use Rattle.blocks.specs.Refuse.{holds_all, whole_filters}
use Rattle.blocks.specs.Edge.{place_ok}
use Rattle.blocks.specs.Subpel.{type_ok, sixteenth_ok, fraction_ok, subpel_ok, filter_in, put8_rule, prep8_rule}
use Rattle.blocks.specs.Warp.{warp_place_ok}
use Rattle.blocks.specs.Window.{frame_sizes_ok, frame_names_ok, LentPlane, lent_w, lent_h, before, window_side, Asked}
use Rattle.blocks.specs.Window.{always_scratch, plane_if_inside, scratch_of}
use Rattle.blocks.specs.declared.order.Order.{Order}
use Rattle.blocks.specs.declared.order.Kind.{Kind}
use Rattle.blocks.specs.declared.order.Kind.TheVariants.{Copy, Subpel, Bilinear, Warp}

-- the number of a kind, by which windows have their margins
abbrev pub kind_number : Kind → ℕ
kind_number Copy = 0
kind_number (Subpel m) = 1
kind_number (Bilinear m) = 2
kind_number (Warp s) = 3

-- the kind that a call's numbers name: 0 copy, 1 8-tap, 2 bilinear, 3 warp. Any other number is refused as 3; till then it is tested as a copy.
-- Numbers that a kind doesn't have aren't tested
unfoldable pub kind_of : (kind : ℕ) (mx my filterType a b c d : ℤ) → Kind
kind_of kind mx my filterType a b c d =
    pick (eqb kind 1) (Subpel (record { mx = mx; my = my; filter_type = filterType }))
    (pick (eqb kind 2) (Bilinear (record { mx = mx; my = my }))
    (pick (eqb kind 3) (Warp (record { a = a; b = b; c = c; d = d; mx = mx; my = my })) Copy))

-- "warp .. (size 8 x 8, else number 1)"
unfoldable pub kind_size_ok : Kind → (w h : ℕ) → Bool
kind_size_ok Copy w h = true
kind_size_ok (Subpel m) w h = true
kind_size_ok (Bilinear m) w h = true
kind_size_ok (Warp s) w h = eqb w 8 && eqb h 8

-- the kind's own numbers
unfoldable pub motion_ok : Kind → Bool
motion_ok Copy = true
motion_ok (Subpel m) = type_ok m.filter_type && (fraction_ok m.filter_type m.mx && fraction_ok m.filter_type m.my)
motion_ok (Bilinear m) = sixteenth_ok m.mx && sixteenth_ok m.my
motion_ok (Warp s) = warp_place_ok s.mx && warp_place_ok s.my

-- the filters that the kind needs, in tables of el and wl numbers
unfoldable pub filters_ok : Kind → (el wl : ℕ) → Bool
filters_ok Copy el wl = true
filters_ok (Subpel m) el wl = filter_in m.filter_type m.mx el && filter_in m.filter_type m.my el
filters_ok (Bilinear m) el wl = true
filters_ok (Warp s) el wl = all_there (wl / 8) s.mx s.my s.a s.b s.c s.d

-- the three tables of filters
pub record Tables : Type 0 where
  pub subpel : List ℤ
  pub ext : List ℤ
  pub warp : List ℤ

-- what an order is run in: a depth, a lent plane and tables. deep is the outcome of the depth's test, true for bytes
pub record Setting : Type 0 where
  pub deep : Bool
  pub depth : ℕ
  pub lent : LentPlane
  pub tables : Tables

-- "through a window in the default mode"; "The 8-tap and bilinear order runners .. ask for mode 1 by name" (E12)
abbrev pub mode_of : Kind → ℕ
mode_of Copy = always_scratch
mode_of (Subpel m) = plane_if_inside
mode_of (Bilinear m) = plane_if_inside
mode_of (Warp s) = always_scratch

abbrev pub asked_by : Order → Asked
asked_by o = record { kind = kind_number o.kind; w = o.w; h = o.h; x = o.x; y = o.y; mode = mode_of o.kind }

-- named says that the kind's number was one of the four. sl is the length of scratch, dl of dst (or tmp)
abbrev pub order_tests : Setting → (named : Bool) (o : Order) (sl dl dstStride : ℕ) → List Test
order_tests s named o sl dl dstStride =
    size asks frame_sizes_ok s.lent.frame s.lent.plane_no
    ∷ size asks size_ok block_side o.w
    ∷ size asks size_ok block_side o.h
    ∷ size asks kind_size_ok o.kind o.w o.h
    ∷ stride asks stride_ok (lent_w s.lent) s.lent.stride
    ∷ stride asks stride_ok o.w dstStride
    ∷ number asks s.deep
    ∷ number asks frame_names_ok s.lent.frame s.lent.plane_no
    ∷ number asks named
    ∷ number asks place_ok o.x
    ∷ number asks place_ok o.y
    ∷ number asks motion_ok o.kind
    ∷ table asks subpel_ok (length s.tables.subpel)
    ∷ table asks whole_filters (length s.tables.ext)
    ∷ table asks whole_filters (length s.tables.warp)
    ∷ table asks filters_ok o.kind (length s.tables.ext) (length s.tables.warp)
    ∷ read asks holds (length s.lent.plane) s.lent.stride (lent_w s.lent) (lent_h s.lent)
    ∷ written asks holds_all sl (window_side (kind_number o.kind) o.w) (window_side (kind_number o.kind) o.h)
    ∷ written asks holds dl dstStride o.w o.h
    ∷ []

abbrev pub order_number : Setting → (named : Bool) (o : Order) (sl dl dstStride : ℕ) → ℕ
order_number s named o sl dl dstStride = lowest (order_tests s named o sl dl dstStride)

-- what scratch holds where the number is r
unfoldable pub order_scratch : (r : ℕ) → LentPlane → Order → List ℕ → List ℕ
order_scratch r p o scratch = scratch_of r p (asked_by o) scratch

-- the plane that the order reads: the frame's named plane, for ever
abbrev pub plane_of : LentPlane → ℤ → ℤ → ℕ
plane_of p = endless p.plane p.stride (lent_w p) (lent_h p)

-- "An order is run as put": the pixel at column i of row j of a block of w x h, from the pixels q around it, of which column 0 and row 0 stand at the
-- window's margin before it
unfoldable pub put_rule : (M B : ℕ) (subpel ext warp : List ℤ) → Kind → (w h i j : ℕ) → (ℕ → ℕ → ℕ) → ℕ
put_rule M B subpel ext warp Copy w h i j q = put (q 0 0)
put_rule M B subpel ext warp (Subpel m) w h i j q = put8_rule M B subpel ext m.mx m.my m.filter_type w h q
put_rule M B subpel ext warp (Bilinear m) w h i j q = put_bilin M B (up m.mx) (up m.my) q
put_rule M B subpel ext warp (Warp s) w h i j q = warp_put M B warp s.mx s.my s.a s.b s.c s.d i j q

-- "or as prep (8x8t for warp)"
unfoldable pub prep_rule : (B P : ℕ) (subpel ext warp : List ℤ) → Kind → (w h i j : ℕ) → (ℕ → ℕ → ℕ) → ℤ
prep_rule B P subpel ext warp Copy w h i j q = prep B P (q 0 0)
prep_rule B P subpel ext warp (Subpel m) w h i j q = prep8_rule B P subpel ext m.mx m.my m.filter_type w h q
prep_rule B P subpel ext warp (Bilinear m) w h i j q = prep_bilin B P (up m.mx) (up m.my) q
prep_rule B P subpel ext warp (Warp s) w h i j q = warp_prep B P warp s.mx s.my s.a s.b s.c s.d i j q

-- the pixels around column i of row j of the order's block on the plane g
abbrev pub around_in : Order → (ℤ → ℤ → ℕ) → (i j : ℕ) → ℕ → ℕ → ℕ
around_in o g i j = around_at (before (kind_number o.kind)) g o.x o.y i j

-- the order's block on the plane g, run as put and as prep at the depth
unfoldable pub put_picture : (depth : ℕ) → Tables → Order → (ℤ → ℤ → ℕ) → (i j : ℕ) → ℕ
put_picture depth t o g i j = put_rule (max_of depth) (bits_of depth) t.subpel t.ext t.warp o.kind o.w o.h i j (around_in o g i j)

unfoldable pub prep_picture : (depth : ℕ) → Tables → Order → (ℤ → ℤ → ℕ) → (i j : ℕ) → ℤ
prep_picture depth t o g i j = prep_rule (bits_of depth) (bias_of depth) t.subpel t.ext t.warp o.kind o.w o.h i j (around_in o g i j)

-- "the block predicted on that endless plane"
abbrev pub endless_put : Setting → Order → (i j : ℕ) → ℕ
endless_put s o = put_picture s.depth s.tables o (plane_of s.lent)

abbrev pub endless_prep : Setting → Order → (i j : ℕ) → ℤ
endless_prep s o = prep_picture s.depth s.tables o (plane_of s.lent)

-- ---- what a call answers: the number r, and scratch and dst (or tmp) at the end

-- "into a lent buffer that begins at the block's first pixel": dst where the number is r
unfoldable pub order_dst : (r : ℕ) → Setting → Order → (dstStride : ℕ) → List ℕ → List ℕ
order_dst r s o dstStride dst = or_same r (fill dst dstStride o.w o.h (endless_put s o)) dst

unfoldable pub order_tmp : (r : ℕ) → Setting → Order → (tmpStride : ℕ) → List ℤ → List ℤ
order_tmp r s o tmpStride tmp = or_same r (fill tmp tmpStride o.w o.h (endless_prep s o)) tmp

abbrev pub OrderPutAnswer : Setting → (named : Bool) (o : Order) (scratch dst : List ℕ) (dstStride : ℕ) → (r : ℕ) (scratch' dst' : List ℕ) → Type 0
OrderPutAnswer s named o scratch dst dstStride r scratch' dst' =
    (r ≡ order_number s named o (length scratch) (length dst) dstStride)
    × (scratch' ≡ order_scratch r s.lent o scratch)
    × (dst' ≡ order_dst r s o dstStride dst)

abbrev pub OrderPrepAnswer : Setting → (named : Bool) (o : Order) (scratch : List ℕ) (tmp : List ℤ) (tmpStride : ℕ)
    → (r : ℕ) (scratch' : List ℕ) (tmp' : List ℤ) → Type 0
OrderPrepAnswer s named o scratch tmp tmpStride r scratch' tmp' =
    (r ≡ order_number s named o (length scratch) (length tmp) tmpStride)
    × (scratch' ≡ order_scratch r s.lent o scratch)
    × (tmp' ≡ order_tmp r s o tmpStride tmp)
