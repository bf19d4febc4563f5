-- Demand 3 at work, run as put: calls of the C functions that meet its premises, with the pixels that they leave. Assumes nothing.
use mathlib.Core.Path.{◌≡◌, refl, subst}
use mathlib.Core.Bool.{true, false}
use mathlib.Core.List.{List, [], ◌∷◌}
use Prim.Native.Nat.{ℕ, ◌+◌, ◌≤◌}
use native.Mathlib.Omega.{arith}
use lib.IntN.{pos, negsuc}
use Rattle.rows.specs.Numbers.{sum_z, low16}
use Rattle.rows.specs.Places.{row_from, row_of, paint, fill_in, fill, in_block}
use Rattle.rows.specs.Bilinear.{bilin, R, along, down, bilin_mid, put_bilin}
use Rattle.rows.specs.Edge.{endless, around_at}
use Rattle.rows.specs.Subpel.{filter, family, axis, S, tapped, mid, put8}
use Rattle.rows.specs.Cut.{Each, SameSide}
use Rattle.blocks.specs.words.Depth.{depth_ok}
use Rattle.blocks.specs.Refuse.{need, or_same, size_ok, stride_ok, holds, whole_filters}
use Rattle.blocks.specs.Edge.{place_ok}
use Rattle.blocks.specs.WMask.{flags_ok}
use Rattle.blocks.specs.Subpel.{type_ok, sixteenth_ok, fraction_ok, subpel_ok, filter_in, put8_rule}
use Rattle.blocks.specs.Window.{plane_side, frame_sizes_ok, frame_names_ok, before, after}
use Rattle.blocks.specs.Order.{kind_of, kind_size_ok, motion_ok, filters_ok, order_dst, put_rule, put_picture, endless_put}
use Rattle.blocks.specs.Cut.{put_rects, put_number}
use Rattle.rows.proofs.Laws.Blocks.Places.{length-row_of}
use Rattle.blocks.proofs.Laws.Cut.Runs.{Ran}
use Rattle.blocks.proofs.Laws.Cut.Places.{Predicted, PutCalls, put_says, calls_ran, rects_calls}
use Rattle.blocks.proofs.Laws.Cut.CFunctions as functions
use Rattle.blocks.proofs.Laws.Cut.Witness.Four.{four_cut, small_sides}
use Rattle.blocks.proofs.Laws.Cut.Witness.Plane.{shades, odd, scratch, none}
use Rattle.blocks.proofs.Laws.Cut.Witness.Cases as cases

-- ---- computed: no call is refused, the calls leave a list, and that is the block on the endless plane

pub record Computed (t : cases.Case) (left : List ℕ) : Type 0 where
  pub accepted : Each (λ r. put_number (cases.setting t) (cases.block t) 128 t.stride (cases.places t) r ≡ 0) (cases.rects t)
  pub run : put_rects (cases.setting t) (cases.block t) 128 t.stride (cases.rects t) (cases.before t) ≡ left
  pub whole : fill (cases.before t) t.stride (t.a + t.b) (t.c + t.d) (endless_put (cases.setting t) (cases.block t)) ≡ left

abbrev pub corner8 : List ℕ
corner8 = 0 ∷ 0 ∷ 200 ∷ 9 ∷ 100 ∷ 100 ∷ 40 ∷ 9 ∷ 100 ∷ 100 ∷ 40 ∷ 9 ∷ []

abbrev pub corner10 : List ℕ
corner10 = 0 ∷ 0 ∷ 800 ∷ 9 ∷ 400 ∷ 400 ∷ 160 ∷ 9 ∷ 400 ∷ 400 ∷ 160 ∷ 9 ∷ []

abbrev pub smooth8 : List ℕ
smooth8 = 78 ∷ 79 ∷ 9 ∷ 72 ∷ 68 ∷ 9 ∷ []

abbrev pub smooth10 : List ℕ
smooth10 = 312 ∷ 315 ∷ 9 ∷ 287 ∷ 273 ∷ 9 ∷ []

abbrev pub smooth12 : List ℕ
smooth12 = 1249 ∷ 1260 ∷ 9 ∷ 1146 ∷ 1094 ∷ 9 ∷ []

abbrev pub between8 : List ℕ
between8 = 56 ∷ 73 ∷ 9 ∷ 100 ∷ 81 ∷ 9 ∷ []

abbrev pub between10 : List ℕ
between10 = 225 ∷ 292 ∷ 9 ∷ 400 ∷ 325 ∷ 9 ∷ []

abbrev pub between12 : List ℕ
between12 = 900 ∷ 1169 ∷ 9 ∷ 1600 ∷ 1300 ∷ 9 ∷ []

pub computed :
    Computed (cases.copied 8 1) corner8
    × Computed (cases.copied 10 4) corner10
    × Computed (cases.filtered 8 1) smooth8
    × Computed (cases.filtered 10 4) smooth10
    × Computed (cases.filtered 12 16) smooth12
    × Computed (cases.bilinear 8 1) between8
    × Computed (cases.bilinear 10 4) between10
    × Computed (cases.bilinear 12 16) between12
unfolding Each kind_of put_rects order_dst or_same fill fill_in paint in_block row_of row_from need size_ok stride_ok holds whole_filters place_ok flags_ok type_ok
    sixteenth_ok fraction_ok subpel_ok filter_in plane_side frame_sizes_ok frame_names_ok before after kind_size_ok motion_ok filters_ok put_picture put_rule put8_rule put8 mid
    axis family filter tapped S sum_z low16 endless around_at bilin R along down bilin_mid put_bilin
computed = (
  record { accepted = (refl, (refl, (refl, (refl, tt)))); run = refl; whole = refl },
  record { accepted = (refl, (refl, (refl, (refl, tt)))); run = refl; whole = refl },
  record { accepted = (refl, (refl, (refl, (refl, tt)))); run = refl; whole = refl },
  record { accepted = (refl, (refl, (refl, (refl, tt)))); run = refl; whole = refl },
  record { accepted = (refl, (refl, (refl, (refl, tt)))); run = refl; whole = refl },
  record { accepted = (refl, (refl, (refl, (refl, tt)))); run = refl; whole = refl },
  record { accepted = (refl, (refl, (refl, (refl, tt)))); run = refl; whole = refl },
  record { accepted = (refl, (refl, (refl, (refl, tt)))); run = refl; whole = refl },
)

-- ---- so they are calls that meet the premises: each is lent its rectangle's own rows

pub ran : (t : cases.Case) (left : List ℕ) → Computed t left
    → PutCalls (put_says (cases.setting t) true (cases.kind_in t)) (negsuc 0) (pos 0) t.stride (cases.rects t) (cases.before t) left
unfolding row_of row_from
ran t left k =
    subst (PutCalls (put_says (cases.setting t) true (cases.kind_in t)) (negsuc 0) (pos 0) t.stride (cases.rects t) (cases.before t)) k.run
    (rects_calls (cases.setting t) (cases.block t) t.stride (cases.places t) scratch (cases.rects t) (cases.before t)
    (length-row_of (cases.places t) _) k.accepted)

-- `Ran` has such runs
pub runs : (t : cases.Case) (left : List ℕ) → Computed t left
    → Ran (cases.setting t) (cases.block t) t.stride (cases.rects t) (cases.before t) left
runs t left k = calls_ran (cases.setting t) (cases.block t) t.stride (cases.rects t) (cases.before t) left (ran t left k)

-- calls of hv_order_put_16bpc, and of hv_order_put_8bpc
abbrev pub Called16 : cases.Case → List ℕ → Type 0
Called16 t left =
    PutCalls (functions.put16 (pos t.depth) 2 2 false false 0 (shades t.m) 2 t.kind (pos t.mx) (pos t.my) none none none none none odd [] [])
    (negsuc 0) (pos 0) t.stride (cases.rects t) (cases.before t) left

abbrev pub Called8 : cases.Case → List ℕ → Type 0
Called8 t left =
    PutCalls (functions.put8 2 2 false false 0 (shades t.m) 2 t.kind (pos t.mx) (pos t.my) none none none none none odd [] [])
    (negsuc 0) (pos 0) t.stride (cases.rects t) (cases.before t) left

pub put_16bpc :
    Called16 (cases.copied 10 4) corner10
    × Called16 (cases.filtered 10 4) smooth10
    × Called16 (cases.filtered 12 16) smooth12
    × Called16 (cases.bilinear 10 4) between10
    × Called16 (cases.bilinear 12 16) between12
unfolding kind_of depth_ok
put_16bpc = (
  ran (cases.copied 10 4) corner10 computed.1,
  ran (cases.filtered 10 4) smooth10 computed.3,
  ran (cases.filtered 12 16) smooth12 computed.4,
  ran (cases.bilinear 10 4) between10 computed.6,
  ran (cases.bilinear 12 16) between12 computed.7,
)

pub put_8bpc : Called8 (cases.copied 8 1) corner8 × Called8 (cases.filtered 8 1) smooth8 × Called8 (cases.bilinear 8 1) between8
unfolding kind_of
put_8bpc = (
  ran (cases.copied 8 1) corner8 computed.0,
  ran (cases.filtered 8 1) smooth8 computed.2,
  ran (cases.bilinear 8 1) between8 computed.5,
)

-- and the theorems about the C functions speak of them: such calls leave the block
module _ (t : cases.Case) (left : List ℕ) (small : t.kind ≤ 2) (sides : Each (SameSide (t.a + t.b) (t.c + t.d)) (cases.rects t))
    (carries : t.a + t.b ≤ t.stride) where
  pub predicted_16bpc : Called16 t left
      → Predicted (t.a + t.b) (t.c + t.d) t.stride
      (endless_put
      (functions.set16 (pos t.depth) 2 2 false false 0 (shades t.m) 2 t.kind (pos t.mx) (pos t.my) none none none none none odd [] [])
      (cases.block t))
      (cases.before t) left
  predicted_16bpc calls =
      functions.cut_put_16bpc (pos t.depth) 2 2 false false 0 (shades t.m) 2 t.kind (pos t.mx) (pos t.my) none none none none none odd [] []
      (negsuc 0) (pos 0) (t.a + t.b) (t.c + t.d) (cases.rects t) small (four_cut t.a t.b t.c t.d) sides
      t.stride (cases.before t) left carries calls

  pub predicted_8bpc : Called8 t left
      → Predicted (t.a + t.b) (t.c + t.d) t.stride
      (endless_put (functions.set8 2 2 false false 0 (shades t.m) 2 t.kind (pos t.mx) (pos t.my) none none none none none odd [] []) (cases.block t))
      (cases.before t) left
  predicted_8bpc calls =
      functions.cut_put_8bpc 2 2 false false 0 (shades t.m) 2 t.kind (pos t.mx) (pos t.my) none none none none none odd [] []
      (negsuc 0) (pos 0) (t.a + t.b) (t.c + t.d) (cases.rects t) small (four_cut t.a t.b t.c t.d) sides
      t.stride (cases.before t) left carries calls

abbrev Block : cases.Case → List ℕ → Type 0
Block t left = Predicted (t.a + t.b) (t.c + t.d) t.stride (endless_put (cases.setting t) (cases.block t)) (cases.before t) left

pub predicted :
    Block (cases.copied 8 1) corner8
    × Block (cases.filtered 10 4) smooth10
    × Block (cases.filtered 12 16) smooth12
    × Block (cases.bilinear 8 1) between8
    × Block (cases.bilinear 10 4) between10
unfolding depth_ok
predicted = (
  predicted_8bpc (cases.copied 8 1) corner8 (omega arith) small_sides.0 (omega arith) put_8bpc.0,
  predicted_16bpc (cases.filtered 10 4) smooth10 (omega arith) small_sides.1 (omega arith) put_16bpc.1,
  predicted_16bpc (cases.filtered 12 16) smooth12 (omega arith) small_sides.1 (omega arith) put_16bpc.2,
  predicted_8bpc (cases.bilinear 8 1) between8 (omega arith) small_sides.1 (omega arith) put_8bpc.2,
  predicted_16bpc (cases.bilinear 10 4) between10 (omega arith) small_sides.1 (omega arith) put_16bpc.3,
)
