-- Demand 3 at work, run as prep: calls of the C functions, with what each leaves in its intermediate. Assumes nothing.
use mathlib.Core.Path.{◌≡◌, refl}
use mathlib.Core.Bool.{true, false}
use mathlib.Core.List.{List, [], ◌∷◌}
use Prim.Native.Nat.{ℕ, ◌+◌, ◌*◌, ◌/◌, ◌%◌, ◌≤◌}
use lib.IntN.{ℤ, pos, negsuc}
use Rattle.rows.specs.Numbers.{sum_z, low16, at}
use Rattle.rows.specs.Places.{row_from, row_of, paint, fill_in, fill, in_block}
use Rattle.rows.specs.Copy.{prep}
use Rattle.rows.specs.Bilinear.{bilin, R, along, down, bilin_mid, prep_bilin}
use Rattle.rows.specs.Edge.{endless, around_at}
use Rattle.rows.specs.Subpel.{filter, family, axis, S, tapped, mid, prep8}
use Rattle.rows.specs.Cut.{Rect, Each, SameSide}
use Rattle.rows.proofs.Laws.Cut.Cut.{each_map, each_both}
use Rattle.blocks.specs.words.Depth.{depth_ok}
use Rattle.blocks.specs.Refuse.{need, size_ok, stride_ok, holds, whole_filters}
use Rattle.blocks.specs.Edge.{place_ok}
use Rattle.blocks.specs.WMask.{flags_ok}
use Rattle.blocks.specs.Subpel.{type_ok, sixteenth_ok, fraction_ok, subpel_ok, filter_in, prep8_rule}
use Rattle.blocks.specs.Window.{plane_side, frame_sizes_ok, frame_names_ok, before, after}
use Rattle.blocks.specs.Order.{kind_of, kind_size_ok, motion_ok, filters_ok, prep_rule, prep_picture, endless_prep}
use Rattle.blocks.specs.Cut.{cut_order}
use Rattle.blocks.proofs.Laws.Cut.Demand.{prep_number}
use Rattle.blocks.proofs.Laws.Cut.Places.{PrepSays, PrepCall, AllPrepped, prep_says, prep_call}
use Rattle.blocks.proofs.Laws.Cut.CFunctions as functions
use Rattle.blocks.proofs.Laws.Cut.Witness.Four.{four_cut}
use Rattle.blocks.proofs.Laws.Cut.Witness.Plane.{shades, odd, scratch, none}
use Rattle.blocks.proofs.Laws.Cut.Witness.Cases as cases

-- an intermediate of zeros, for the rectangle r
abbrev zeros : Rect → List ℤ
zeros r = row_of (r.w * r.h) (λ p. none)

-- what the rectangle r has of a block of w columns
abbrev pub part : (w : ℕ) → List ℤ → Rect → List ℤ
part w whole r = row_of (r.w * r.h) (λ p. at whole ((r.y + p / r.w) * w + (r.x + p % r.w)))

-- ---- computed: no call is refused, each leaves its part of a block, and that is the block on the endless plane

pub record Computed (t : cases.Case) (block : List ℤ) : Type 0 where
  pub accepted : Each (λ r. prep_number (cases.setting t) (cases.block t) 128 r (zeros r) ≡ 0) (cases.rects t)
  pub runs : Each (λ r. fill (zeros r) r.w r.w r.h (endless_prep (cases.setting t) (cut_order (cases.block t) r)) ≡ part (t.a + t.b) block r)
      (cases.rects t)
  pub whole : row_of ((t.c + t.d) * (t.a + t.b)) (λ p. endless_prep (cases.setting t) (cases.block t) (p % (t.a + t.b)) (p / (t.a + t.b))) ≡ block

-- B is 4 and P is 0, or 8192
abbrev pub copied8 : List ℤ
copied8 = pos 0 ∷ pos 0 ∷ pos 3200 ∷ pos 1600 ∷ pos 1600 ∷ pos 640 ∷ pos 1600 ∷ pos 1600 ∷ pos 640 ∷ []

abbrev pub copied10 : List ℤ
copied10 = negsuc 8191 ∷ negsuc 8191 ∷ pos 4608 ∷ negsuc 1791 ∷ negsuc 1791 ∷ negsuc 5631 ∷ negsuc 1791 ∷ negsuc 1791 ∷ negsuc 5631 ∷ []

abbrev pub filtered8 : List ℤ
filtered8 = pos 1249 ∷ pos 1260 ∷ pos 1146 ∷ pos 1094 ∷ []

abbrev pub filtered10 : List ℤ
filtered10 = negsuc 3196 ∷ negsuc 3151 ∷ negsuc 3605 ∷ negsuc 3816 ∷ []

abbrev pub bilinear8 : List ℤ
bilinear8 = pos 900 ∷ pos 1169 ∷ pos 1600 ∷ pos 1300 ∷ []

abbrev pub bilinear10 : List ℤ
bilinear10 = negsuc 4591 ∷ negsuc 3516 ∷ negsuc 1791 ∷ negsuc 2991 ∷ []

-- pixels of 12 bits are four times as bright, and B is 2: the intermediates are those of 10 bits
pub computed :
    Computed (cases.copied 8 1) copied8
    × Computed (cases.copied 10 4) copied10
    × Computed (cases.filtered 8 1) filtered8
    × Computed (cases.filtered 10 4) filtered10
    × Computed (cases.filtered 12 16) filtered10
    × Computed (cases.bilinear 8 1) bilinear8
    × Computed (cases.bilinear 10 4) bilinear10
    × Computed (cases.bilinear 12 16) bilinear10
unfolding Each kind_of fill fill_in paint in_block row_of row_from need size_ok stride_ok holds whole_filters place_ok flags_ok type_ok sixteenth_ok
    fraction_ok subpel_ok filter_in plane_side frame_sizes_ok frame_names_ok before after kind_size_ok motion_ok filters_ok prep_picture prep_rule prep8_rule prep8 mid axis
    family filter tapped S sum_z low16 endless around_at bilin R along down bilin_mid prep_bilin prep
computed = (
  record { accepted = (refl, (refl, (refl, (refl, tt)))); runs = (refl, (refl, (refl, (refl, tt)))); whole = refl },
  record { accepted = (refl, (refl, (refl, (refl, tt)))); runs = (refl, (refl, (refl, (refl, tt)))); whole = refl },
  record { accepted = (refl, (refl, (refl, (refl, tt)))); runs = (refl, (refl, (refl, (refl, tt)))); whole = refl },
  record { accepted = (refl, (refl, (refl, (refl, tt)))); runs = (refl, (refl, (refl, (refl, tt)))); whole = refl },
  record { accepted = (refl, (refl, (refl, (refl, tt)))); runs = (refl, (refl, (refl, (refl, tt)))); whole = refl },
  record { accepted = (refl, (refl, (refl, (refl, tt)))); runs = (refl, (refl, (refl, (refl, tt)))); whole = refl },
  record { accepted = (refl, (refl, (refl, (refl, tt)))); runs = (refl, (refl, (refl, (refl, tt)))); whole = refl },
  record { accepted = (refl, (refl, (refl, (refl, tt)))); runs = (refl, (refl, (refl, (refl, tt)))); whole = refl },
)

-- ---- so they are calls that meet the premises

-- a call for the rectangle r that leaves its part of the block
abbrev pub Left : PrepSays → (w : ℕ) → List ℤ → Rect → Type 0
Left says w block r = (c : PrepCall says (negsuc 0) (pos 0) r) × (c.tmp' ≡ part w block r)

pub ran : (t : cases.Case) (block : List ℤ) → Computed t block
    → Each (Left (prep_says (cases.setting t) true (cases.kind_in t)) (t.a + t.b) block) (cases.rects t)
unfolding row_of row_from prep_call
ran t block k =
    each_both _ _ _ (cases.rects t) (λ r e l. (prep_call (cases.setting t) (cases.block t) r scratch (zeros r) e, l)) k.accepted k.runs

-- calls of hv_order_prep_16bpc, and of hv_order_prep_8bpc
abbrev pub Called16 : cases.Case → List ℤ → Type 0
Called16 t block =
    Each
    (Left (functions.prep16 (pos t.depth) 2 2 false false 0 (shades t.m) 2 t.kind (pos t.mx) (pos t.my) none none none none none odd [] [])
    (t.a + t.b) block)
    (cases.rects t)

abbrev pub Called8 : cases.Case → List ℤ → Type 0
Called8 t block =
    Each
    (Left (functions.prep8 2 2 false false 0 (shades t.m) 2 t.kind (pos t.mx) (pos t.my) none none none none none odd [] [])
    (t.a + t.b) block)
    (cases.rects t)

pub prep_16bpc :
    Called16 (cases.copied 10 4) copied10
    × Called16 (cases.filtered 10 4) filtered10
    × Called16 (cases.filtered 12 16) filtered10
    × Called16 (cases.bilinear 10 4) bilinear10
    × Called16 (cases.bilinear 12 16) bilinear10
unfolding kind_of depth_ok
prep_16bpc = (
  ran (cases.copied 10 4) copied10 computed.1,
  ran (cases.filtered 10 4) filtered10 computed.3,
  ran (cases.filtered 12 16) filtered10 computed.4,
  ran (cases.bilinear 10 4) bilinear10 computed.6,
  ran (cases.bilinear 12 16) bilinear10 computed.7,
)

pub prep_8bpc : Called8 (cases.copied 8 1) copied8 × Called8 (cases.filtered 8 1) filtered8 × Called8 (cases.bilinear 8 1) bilinear8
unfolding kind_of
prep_8bpc = (
  ran (cases.copied 8 1) copied8 computed.0,
  ran (cases.filtered 8 1) filtered8 computed.2,
  ran (cases.bilinear 8 1) bilinear8 computed.5,
)

-- and the theorems about the C functions speak of them: each pixel of the block is in the intermediate of a rectangle that has it
module _ (t : cases.Case) (block : List ℤ) (small : t.kind ≤ 2) (sides : Each (SameSide (t.a + t.b) (t.c + t.d)) (cases.rects t)) where
  pub prepped_16bpc : (calls : Called16 t block)
      → AllPrepped
      (functions.prep16 (pos t.depth) 2 2 false false 0 (shades t.m) 2 t.kind (pos t.mx) (pos t.my) none none none none none odd [] [])
      (negsuc 0) (pos 0)
      (endless_prep
      (functions.set16 (pos t.depth) 2 2 false false 0 (shades t.m) 2 t.kind (pos t.mx) (pos t.my) none none none none none odd [] [])
      (cases.block t))
      (t.a + t.b) (t.c + t.d) (cases.rects t) (each_map _ _ (cases.rects t) (λ r l. l.0) calls)
  prepped_16bpc calls =
      functions.cut_prep_16bpc (pos t.depth) 2 2 false false 0 (shades t.m) 2 t.kind (pos t.mx) (pos t.my) none none none none none odd [] []
      (negsuc 0) (pos 0) (t.a + t.b) (t.c + t.d) (cases.rects t) small (four_cut t.a t.b t.c t.d) sides
      (each_map _ _ (cases.rects t) (λ r l. l.0) calls)

  pub prepped_8bpc : (calls : Called8 t block)
      → AllPrepped (functions.prep8 2 2 false false 0 (shades t.m) 2 t.kind (pos t.mx) (pos t.my) none none none none none odd [] [])
      (negsuc 0) (pos 0)
      (endless_prep (functions.set8 2 2 false false 0 (shades t.m) 2 t.kind (pos t.mx) (pos t.my) none none none none none odd [] []) (cases.block t))
      (t.a + t.b) (t.c + t.d) (cases.rects t) (each_map _ _ (cases.rects t) (λ r l. l.0) calls)
  prepped_8bpc calls =
      functions.cut_prep_8bpc 2 2 false false 0 (shades t.m) 2 t.kind (pos t.mx) (pos t.my) none none none none none odd [] []
      (negsuc 0) (pos 0) (t.a + t.b) (t.c + t.d) (cases.rects t) small (four_cut t.a t.b t.c t.d) sides
      (each_map _ _ (cases.rects t) (λ r l. l.0) calls)
