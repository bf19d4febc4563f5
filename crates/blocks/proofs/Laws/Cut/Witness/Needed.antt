-- Premises of demand 3 without which it would be false. Assumes nothing.
use mathlib.Core.Path.{◌≡◌, refl, sym, ◌∙◌}
use mathlib.Core.List.{List}
use Prim.Native.Nat.{ℕ, ◌≤◌, ◌<◌}
use native.Mathlib.Omega.{arith}
use lib.Dec.{ltb}
use lib.IntN.{pos}
use lib.ListN.{length}
use mathlib.Core.Bool.{true}
use Rattle.rows.specs.Numbers.{sum_z, low16}
use Rattle.rows.specs.Places.{pixel, row_from, row_of, paint, fill_in, fill, in_block}
use Rattle.rows.specs.Edge.{endless, around_at}
use Rattle.rows.specs.Subpel.{filter, family, axis, S, tapped, mid, put8}
use Rattle.rows.specs.Cut.{Rect, Each, Cut}
use Rattle.blocks.specs.Refuse.{need, or_same, size_ok, stride_ok, holds, whole_filters}
use Rattle.blocks.specs.Edge.{place_ok}
use Rattle.blocks.specs.WMask.{flags_ok}
use Rattle.blocks.specs.Subpel.{type_ok, sixteenth_ok, fraction_ok, subpel_ok, filter_in, put8_rule}
use Rattle.blocks.specs.Window.{plane_side, frame_sizes_ok, frame_names_ok, before, after}
use Rattle.blocks.specs.Order.{kind_size_ok, motion_ok, filters_ok, Setting, order_dst, put_rule, put_picture, endless_put}
use Rattle.blocks.specs.Cut.{unwarped, put_rects, put_number}
use Rattle.blocks.specs.declared.order.Order.{Order}
use Rattle.blocks.specs.declared.order.Kind.{Kind}
use Rattle.blocks.specs.declared.order.Kind.TheVariants.{Copy, Subpel}
use Rattle.blocks.proofs.Laws.Cut.Demand.{CutBlock}
use Rattle.blocks.proofs.Laws.Cut.Witness.Four.{four, four_cut, small_sides}
use Rattle.blocks.proofs.Laws.Cut.Witness.Plane.{on, odd, low, order, nines}

-- ---- the blocks

-- copied, for the stride 1
abbrev square : Order
square = order Copy (pos 0) (pos 0) 2 2

abbrev taps : (mx my : ℕ) → Kind
taps mx my = Subpel (record { mx = pos mx; my = pos my; filter_type = pos 0 })

-- 8-tap on one axis, on which the block is above four and its rectangles aren't
abbrev tall : Order
tall = order (taps 0 1) (pos 0) (pos 0) 2 5

abbrev wide : Order
wide = order (taps 1 0) (pos 0) (pos 0) 5 2

-- no call of a rectangle is refused
abbrev Accepted : Setting → Order → (stride dl : ℕ) → List Rect → Type 0
Accepted s o stride dl rs = Each (λ r. put_number s o 128 stride dl r ≡ 0) rs

accepted :
    Accepted (on 8 1 odd) square 1 3 (four 1 1 1 1)
    × Accepted (on 8 1 low) tall 2 10 (four 1 1 4 1)
    × Accepted (on 8 1 low) wide 5 10 (four 4 1 1 1)
unfolding Each row_of row_from need size_ok stride_ok holds whole_filters place_ok flags_ok type_ok sixteenth_ok fraction_ok subpel_ok filter_in plane_side
    frame_sizes_ok frame_names_ok before after kind_size_ok motion_ok filters_ok
accepted = (
  (refl, (refl, (refl, (refl, tt)))),
  (refl, (refl, (refl, (refl, tt)))),
  (refl, (refl, (refl, (refl, tt)))),
)

-- what the calls leave
cuts :
    (pixel (put_rects (on 8 1 odd) square 128 1 (four 1 1 1 1) (nines 3)) 1 1 0 ≡ 100)
    × (pixel (put_rects (on 8 1 low) tall 128 2 (four 1 1 4 1) (nines 10)) 2 0 0 ≡ 50)
    × (pixel (put_rects (on 8 1 low) wide 128 5 (four 4 1 1 1) (nines 10)) 5 0 0 ≡ 100)
unfolding put_rects order_dst or_same fill fill_in paint in_block row_of row_from need size_ok stride_ok holds whole_filters place_ok flags_ok type_ok sixteenth_ok
    fraction_ok subpel_ok filter_in plane_side frame_sizes_ok frame_names_ok before after kind_size_ok motion_ok filters_ok put_picture put_rule put8_rule put8 mid axis
    family filter tapped S sum_z low16 endless around_at
cuts = (refl, refl, refl)

-- what the blocks are
blocks :
    (endless_put (on 8 1 odd) square 1 0 ≡ 200)
    × (endless_put (on 8 1 low) tall 0 0 ≡ 0)
    × (endless_put (on 8 1 low) wide 0 0 ≡ 0)
unfolding row_of row_from plane_side before put_picture put_rule put8_rule put8 mid axis family filter tapped S sum_z low16 endless around_at
blocks = (refl, refl, refl)

-- ---- premises that are needed

-- each pixel of the block is as the endless plane gives it
abbrev Right : Setting → Order → (sl stride : ℕ) → List Rect → List ℕ → Type 0
Right s o sl stride rs dst = (i j : ℕ) → i < o.w → j < o.h → pixel (put_rects s o sl stride rs dst) stride i j ≡ endless_put s o i j

-- the law without "the stride carries the block" is false: at the stride 1 the second column and the second row begin at the same place
pub stride_needed : ((s : Setting) (o : Order) (sl stride : ℕ) (rs : List Rect) (dst : List ℕ)
    → CutBlock o rs → Each (λ r. put_number s o sl stride (length dst) r ≡ 0) rs → Right s o sl stride rs dst) → ⊥
unfolding unwarped row_of row_from
stride_needed law =
    let block : CutBlock square (four 1 1 1 1) = record { kind = refl; cut = four_cut 1 1 1 1; sides = small_sides.1 } in
    let e = law (on 8 1 odd) square 128 1 (four 1 1 1 1) (nines 3) block accepted.0 1 0 (omega arith) (omega arith) in
    omega (arith, sym cuts.0 ∙ e ∙ blocks.0)

-- it is false if only the sides in width are asked to be on the same side of four
pub height_needed : ((s : Setting) (o : Order) (sl stride : ℕ) (rs : List Rect) (dst : List ℕ)
    → unwarped o.kind ≡ true → Cut o.w o.h rs → Each (λ r. ltb 4 r.w ≡ ltb 4 o.w) rs → o.w ≤ stride
    → Each (λ r. put_number s o sl stride (length dst) r ≡ 0) rs → Right s o sl stride rs dst) → ⊥
unfolding unwarped Each row_of row_from
height_needed law =
    let same : Each (λ r. ltb 4 r.w ≡ ltb 4 2) (four 1 1 4 1) = (refl, (refl, (refl, (refl, tt)))) in
    let e = law (on 8 1 low) tall 128 2 (four 1 1 4 1) (nines 10) refl (four_cut 1 1 4 1) same (omega arith) accepted.1 0 0 (omega arith) (omega arith) in
    omega (arith, sym cuts.1 ∙ e ∙ blocks.1)

-- or only those in height
pub width_needed : ((s : Setting) (o : Order) (sl stride : ℕ) (rs : List Rect) (dst : List ℕ)
    → unwarped o.kind ≡ true → Cut o.w o.h rs → Each (λ r. ltb 4 r.h ≡ ltb 4 o.h) rs → o.w ≤ stride
    → Each (λ r. put_number s o sl stride (length dst) r ≡ 0) rs → Right s o sl stride rs dst) → ⊥
unfolding unwarped Each row_of row_from
width_needed law =
    let same : Each (λ r. ltb 4 r.h ≡ ltb 4 2) (four 4 1 1 1) = (refl, (refl, (refl, (refl, tt)))) in
    let e = law (on 8 1 low) wide 128 5 (four 4 1 1 1) (nines 10) refl (four_cut 4 1 1 1) same (omega arith) accepted.2 0 0 (omega arith) (omega arith) in
    omega (arith, sym cuts.2 ∙ e ∙ blocks.2)
