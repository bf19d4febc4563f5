-- The premises at work: a bilinear block across the left border of a plane of twenty different pixels, cut into four, each rectangle fetched in its own way
-- and then predicted by hv_put_bilin_8bpc, or by hv_prep_bilin_16bpc at 10 bits, with the pixels worked out. Assumes nothing.
use mathlib.Core.Path.{◌≡◌, refl}
use mathlib.Core.Bool.{false}
use mathlib.Core.Logic.{inl, inr}
use mathlib.Core.List.{List, [], ◌∷◌}
use Prim.Native.Nat.{ℕ}
use native.Mathlib.Omega.{arith}
use lib.IntN.{ℤ, pos, negsuc, ◌+ℤ◌}
use lib.Dec.{ltb}
use Rattle.rows.specs.Numbers.{low16}
use Rattle.rows.specs.Places.{span, row_from, row_of, paint, fill_in, fill, in_block, around}
use Rattle.rows.specs.Edge.{endless, edge, around_at}
use Rattle.rows.specs.Bilinear.{bilin, R, along, bilin_mid, put_bilin, prep_bilin}
use Rattle.rows.specs.Cut.{Rect, Each, SameSide}
use Rattle.blocks.specs.words.Depth.{depth_ok}
use Rattle.blocks.specs.Refuse.{need, or_same, size_ok, stride_ok, holds, reads}
use Rattle.blocks.specs.Edge.{place_ok}
use Rattle.blocks.specs.WMask.{flags_ok}
use Rattle.blocks.specs.Subpel.{sixteenth_ok}
use Rattle.blocks.specs.Window.{LentPlane, plane_side, frame_sizes_ok, frame_names_ok, before, after, inside, is_planes, window_at, window_of, fetched}
use Rattle.blocks.specs.Window.{always_scratch, plane_if_inside, scratch_of, part_of}
use Rattle.blocks.specs.Order.{Tables, Setting, put_rule, put_picture}
use Rattle.blocks.specs.declared.order.BilinMotion.{BilinMotion}
use Rattle.blocks.specs.declared.order.Kind.TheVariants.{Bilinear}
use Rattle.blocks.proofs.Laws.Cut.Places.{Predicted, PutCalls, PrepCall, AllPrepped}
use Rattle.blocks.proofs.Laws.Cut.Witness.Four.{r1, r2, r3, r4, four, four_cut}
use Rattle.blocks.proofs.Laws.Fetch.Calls.{fetch_says, KernelSays, fetch_then}
use Rattle.blocks.proofs.Laws.Fetch.Kernels.{put_bilin_kernel, prep_bilin_kernel, block_put, block_prep}
use Rattle.blocks.proofs.Laws.Fetch.CFunctions.{words, bytes, fetch_cut_put-bilin_8bpc, fetch_cut_prep-bilin_16bpc}

-- ---- the plane, of 4 columns and 5 rows
abbrev lent : LentPlane
lent =
    record {
      frame = record { luma_w = 4; luma_h = 5; ss_hor = false; ss_ver = false };
      plane_no = 0;
      plane =
          10 ∷ 200 ∷ 40 ∷ 90 ∷
          100 ∷ 60 ∷ 240 ∷ 30 ∷
          20 ∷ 160 ∷ 80 ∷ 250 ∷
          220 ∷ 120 ∷ 180 ∷ 50 ∷
          70 ∷ 230 ∷ 0 ∷ 140 ∷ [];
      stride = 4;
    }

abbrev none : Tables
none = record { subpel = []; ext = []; warp = [] }

-- half a column, a quarter of a row
abbrev motion : BilinMotion
motion = record { mx = pos 8; my = pos 4 }

-- ---- the block of 4 x 3 at column -1 of row 1, as 2 + 2 columns and 2 + 1 rows, into dst at the stride 5
abbrev x : ℤ
x = negsuc 0

abbrev y : ℤ
y = pos 1

abbrev rects : List Rect
rects = four 2 2 2 1

-- ---- the four fetches: by each, the rectangle r's part at the stride apart
abbrev Fetched : Rect → (scratch part : List ℕ) (apart : ℕ) (scratch' : List ℕ) → Type 0
Fetched r scratch part apart scratch' = fetch_says lent 2 (x +ℤ pos r.x) (y +ℤ pos r.y) r.w r.h scratch part apart scratch'

abbrev zeros : ℕ → List ℕ
zeros n = row_of n (λ t. 0)

abbrev f4 : List ℕ
f4 = 120 ∷ 180 ∷ 50 ∷ 230 ∷ 0 ∷ 140 ∷ []

abbrev f2 : List ℕ
f2 = 60 ∷ 240 ∷ 30 ∷ 20 ∷ 160 ∷ 80 ∷ 250 ∷ 220 ∷ 120 ∷ 180 ∷ 50 ∷ []

abbrev f3 : List ℕ
f3 = 220 ∷ 220 ∷ 120 ∷ 0 ∷ 70 ∷ 70 ∷ 230 ∷ 0 ∷ []

abbrev f1 : List ℕ
f1 = 100 ∷ 100 ∷ 60 ∷ 20 ∷ 20 ∷ 160 ∷ 220 ∷ 220 ∷ 120 ∷ []

-- inside the plane, in mode 0: in scratch, six places at the stride 3
by-mode_0 : Fetched (r4 2 2 2 1) (zeros 6) f4 3 f4
unfolding window_of window_at fetched scratch_of part_of is_planes inside or_same need size_ok stride_ok holds place_ok flags_ok plane_side frame_sizes_ok frame_names_ok
    before after fill fill_in paint in_block row_of row_from edge endless
by-mode_0 = inl (always_scratch, 2, 0, 6, ((refl, refl, refl, refl, refl), refl), refl)

-- inside too, in mode 1: the plane's own part, from place 5 on, at the plane's stride; scratch stays
by-mode_1 : Fetched (r2 2 2 2 1) (zeros 9) f2 4 (zeros 9)
unfolding window_of window_at fetched scratch_of part_of is_planes inside or_same need size_ok stride_ok holds place_ok flags_ok plane_side frame_sizes_ok frame_names_ok
    before after fill fill_in paint in_block row_of row_from edge endless
by-mode_1 = inl (plane_if_inside, 1, 5, 11, ((refl, refl, refl, refl, refl), refl), refl)

-- across the border, by emu_edge, whose rows stand four apart
by_emu_edge : Fetched (r3 2 2 2 1) (zeros 8) f3 4 f3
unfolding or_same need size_ok stride_ok holds place_ok plane_side before after fill fill_in paint in_block row_of row_from edge endless
by_emu_edge = inr ((refl, refl), refl)

-- across the border, in mode 1: in scratch
over_border : Fetched (r1 2 2 2 1) (zeros 9) f1 3 f1
unfolding window_of window_at fetched scratch_of part_of is_planes inside or_same need size_ok stride_ok holds place_ok flags_ok plane_side frame_sizes_ok frame_names_ok
    before after fill fill_in paint in_block row_of row_from edge endless
over_border = inl (plane_if_inside, 2, 0, 9, ((refl, refl, refl, refl, refl), refl), refl)

-- ---- run as put, by hv_put_bilin_8bpc
abbrev putting : KernelSays ℕ
putting = put_bilin_kernel (bytes lent none) motion

-- dst before the calls and after each
abbrev d0 : List ℕ
d0 = row_of 15 (λ t. 9)

abbrev d1 : List ℕ
d1 = 9 ∷ 9 ∷ 9 ∷ 9 ∷ 9 ∷ 9 ∷ 9 ∷ 9 ∷ 9 ∷ 9 ∷ 9 ∷ 9 ∷ 141 ∷ 104 ∷ 9 ∷ []

abbrev d2 : List ℕ
d2 = 9 ∷ 9 ∷ 143 ∷ 143 ∷ 9 ∷ 9 ∷ 9 ∷ 128 ∷ 153 ∷ 9 ∷ 9 ∷ 9 ∷ 141 ∷ 104 ∷ 9 ∷ []

abbrev d3 : List ℕ
d3 = 9 ∷ 9 ∷ 143 ∷ 143 ∷ 9 ∷ 9 ∷ 9 ∷ 128 ∷ 153 ∷ 9 ∷ 183 ∷ 165 ∷ 141 ∷ 104 ∷ 9 ∷ []

abbrev d4 : List ℕ
d4 = 80 ∷ 83 ∷ 143 ∷ 143 ∷ 9 ∷ 70 ∷ 110 ∷ 128 ∷ 153 ∷ 9 ∷ 183 ∷ 165 ∷ 141 ∷ 104 ∷ 9 ∷ []

-- each is lent its rectangle's own rows, of which this is left
abbrev p4 : List ℕ
p4 = 141 ∷ 104 ∷ []

abbrev p2 : List ℕ
p2 = 143 ∷ 143 ∷ 9 ∷ 9 ∷ 9 ∷ 128 ∷ 153 ∷ []

abbrev p3 : List ℕ
p3 = 183 ∷ 165 ∷ []

abbrev p1 : List ℕ
p1 = 80 ∷ 83 ∷ 143 ∷ 143 ∷ 9 ∷ 70 ∷ 110 ∷ []

put_each_lem : putting f4 3 2 1 (span d0 12 14) 5 0 p4 × putting f2 4 2 2 (span d1 2 9) 5 0 p2 × putting f3 4 2 1 (span d2 10 12) 5 0 p3
    × putting f1 3 2 2 (span d3 0 7) 5 0 p1
unfolding or_same need size_ok stride_ok holds reads sixteenth_ok fill fill_in paint in_block row_of row_from around bilin R along bilin_mid put_bilin low16
put_each_lem = ((refl, refl), (refl, refl), (refl, refl), (refl, refl))

abbrev Putting : List Rect → List ℕ → Type 0
Putting rs d = PutCalls (fetch_then lent 2 putting) x y 5 rs d d4

pub put_calls : Putting rects d0
unfolding PutCalls row_of row_from
put_calls =
    let last : Putting (r1 2 2 2 1 ∷ []) d3 = (7, zeros 9, f1, p1, (f1, 3, over_border, put_each_lem.3), refl) in
    let third : Putting (r3 2 2 2 1 ∷ r1 2 2 2 1 ∷ []) d2 = (2, zeros 8, f3, p3, (f3, 4, by_emu_edge, put_each_lem.2), last) in
    let second : Putting (r2 2 2 2 1 ∷ r3 2 2 2 1 ∷ r1 2 2 2 1 ∷ []) d1 = (7, zeros 9, zeros 9, p2, (f2, 4, by-mode_1, put_each_lem.1), third) in
    (2, zeros 6, f4, p4, (f4, 3, by-mode_0, put_each_lem.0), second)

-- the block itself, worked out on the endless plane
block : fill d0 5 4 3 (block_put (bytes lent none) (Bilinear motion) x y 4 3) ≡ d4
unfolding put_picture put_rule plane_side before endless around_at fill fill_in paint in_block row_of row_from bilin R along bilin_mid put_bilin low16
block = refl

-- ---- run as prep, by hv_prep_bilin_16bpc at 10 bits, each into a tmp of its own
abbrev ten : Setting
ten = words lent none (pos 10)

abbrev prepping : KernelSays ℤ
prepping = prep_bilin_kernel ten motion

abbrev empty : ℕ → List ℤ
empty n = row_of n (λ t. pos 0)

abbrev t4 : List ℤ
t4 = negsuc 5931 ∷ negsuc 6531 ∷ []

abbrev t2 : List ℤ
t2 = negsuc 5911 ∷ negsuc 5911 ∷ negsuc 6151 ∷ negsuc 5751 ∷ []

abbrev t3 : List ℤ
t3 = negsuc 5271 ∷ negsuc 5551 ∷ []

abbrev t1 : List ℤ
t1 = negsuc 6911 ∷ negsuc 6871 ∷ negsuc 7071 ∷ negsuc 6431 ∷ []

prep_each : prepping f4 3 2 1 (empty 2) 2 0 t4 × prepping f2 4 2 2 (empty 4) 2 0 t2 × prepping f3 4 2 1 (empty 2) 2 0 t3
    × prepping f1 3 2 2 (empty 4) 2 0 t1
unfolding or_same need size_ok stride_ok holds reads sixteenth_ok depth_ok fill fill_in paint in_block row_of row_from around bilin R along bilin_mid prep_bilin low16
prep_each = ((refl, refl), (refl, refl), (refl, refl), (refl, refl))

pub prep_calls : Each (PrepCall (fetch_then lent 2 prepping) x y) rects
unfolding Each
prep_calls = (
  record { scratch = zeros 6; scratch' = f4; tmp = empty 2; tmp' = t4; told = (f4, 3, by-mode_0, prep_each.0) },
  (
    record { scratch = zeros 9; scratch' = zeros 9; tmp = empty 4; tmp' = t2; told = (f2, 4, by-mode_1, prep_each.1) },
    (
      record { scratch = zeros 8; scratch' = f3; tmp = empty 2; tmp' = t3; told = (f3, 4, by_emu_edge, prep_each.2) },
      (record { scratch = zeros 9; scratch' = f1; tmp = empty 4; tmp' = t1; told = (f1, 3, over_border, prep_each.3) }, tt),
    ),
  ),
)

-- ---- so the theorems about the C functions speak of them

-- all sides are at most four
sides : Each (SameSide 4 3) rects
unfolding Each
sides = (small refl refl, (small refl refl, (small refl refl, (small refl refl, tt)))) where
  small : {w h : ℕ} {r : Rect} → ltb 4 r.w ≡ ltb 4 w → ltb 4 r.h ≡ ltb 4 h → SameSide w h r
  small a b = record { width = a; height = b }

pub put_predicted : Predicted 4 3 5 (block_put (bytes lent none) (Bilinear motion) x y 4 3) d0 d4
put_predicted = fetch_cut_put-bilin_8bpc lent none motion x y 4 3 rects (four_cut 2 2 2 1) sides 5 d0 d4 (omega arith) put_calls

pub prep_predicted : AllPrepped (fetch_then lent 2 prepping) x y (block_prep ten (Bilinear motion) x y 4 3) 4 3 rects prep_calls
prep_predicted = fetch_cut_prep-bilin_16bpc lent none (pos 10) motion x y 4 3 rects (four_cut 2 2 2 1) sides prep_calls
