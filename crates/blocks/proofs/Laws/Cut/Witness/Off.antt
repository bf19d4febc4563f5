-- A run that isn't the block: three rectangles of the cut are predicted where they stand, and the fourth a column further to the right. No call is refused,
-- and dst isn't the block. Assumes nothing.
use mathlib.Core.Path.{◌≡◌, refl, ap, ◌∙◌, subst}
use mathlib.Core.Bool.{true}
use mathlib.Core.List.{List, [], ◌∷◌}
use Prim.Native.Nat.{ℕ, ◌+◌}
use native.Mathlib.Omega.{arith}
use lib.IntN.{pos, negsuc}
use lib.ListN.{length, get_or}
use Rattle.rows.specs.Numbers.{sum_z, low16}
use Rattle.rows.specs.Places.{row_from, row_of, paint, fill_in, fill, in_block}
use Rattle.rows.specs.Bilinear.{bilin, R, along, down, bilin_mid, put_bilin}
use Rattle.rows.specs.Edge.{endless, around_at}
use Rattle.rows.specs.Subpel.{filter, family, axis, S, tapped, mid, put8}
use Rattle.rows.specs.Cut.{Rect, Each}
use Rattle.rows.proofs.Laws.Blocks.Places.{length-row_of}
use Rattle.blocks.specs.Refuse.{need, or_same, size_ok, stride_ok, holds, whole_filters}
use Rattle.blocks.specs.Edge.{place_ok}
use Rattle.blocks.specs.WMask.{flags_ok}
use Rattle.blocks.specs.Subpel.{type_ok, sixteenth_ok, fraction_ok, subpel_ok, filter_in, put8_rule}
use Rattle.blocks.specs.Window.{plane_side, frame_sizes_ok, frame_names_ok, before, after}
use Rattle.blocks.specs.Order.{kind_of, kind_size_ok, motion_ok, filters_ok, order_dst, put_rule, put_picture, endless_put}
use Rattle.blocks.specs.Cut.{put_rects, put_number}
use Rattle.blocks.specs.declared.order.Order.{Order}
use Rattle.blocks.proofs.Laws.Cut.Places.{PutCalls, put_says, rects_calls}
use Rattle.blocks.proofs.Laws.Cut.Witness.Four.{r1, r2, r3, r4}
use Rattle.blocks.proofs.Laws.Cut.Witness.Plane.{order, scratch}
use Rattle.blocks.proofs.Laws.Cut.Witness.Cases as cases
use Rattle.blocks.proofs.Laws.Cut.Witness.Put as right

module _ (t : cases.Case) where
  -- the block a column further
  abbrev beside : Order
  beside = order (cases.kind_in t) (pos 0) (pos 0) (t.a + t.b) (t.c + t.d)

  abbrev three : List Rect
  three = r2 t.a t.b t.c t.d ∷ r3 t.a t.b t.c t.d ∷ r1 t.a t.b t.c t.d ∷ []

  abbrev last : List Rect
  last = r4 t.a t.b t.c t.d ∷ []

  -- after the three
  abbrev halfway : List ℕ
  halfway = put_rects (cases.setting t) (cases.block t) 128 t.stride three (cases.before t)

-- computed
record Computed (t : cases.Case) (left : List ℕ) : Type 0 where
  first : Each (λ r. put_number (cases.setting t) (cases.block t) 128 t.stride (cases.places t) r ≡ 0) (three t)
  then : Each (λ r. put_number (cases.setting t) (beside t) 128 t.stride (cases.places t) r ≡ 0) (last t)
  long : length (halfway t) ≡ cases.places t
  run : put_rects (cases.setting t) (beside t) 128 t.stride (last t) (halfway t) ≡ left

abbrev corner : List ℕ
corner = 0 ∷ 0 ∷ 200 ∷ 9 ∷ 100 ∷ 100 ∷ 40 ∷ 9 ∷ 100 ∷ 40 ∷ 40 ∷ 9 ∷ []

abbrev smooth : List ℕ
smooth = 78 ∷ 79 ∷ 9 ∷ 72 ∷ 66 ∷ 9 ∷ []

abbrev between : List ℕ
between = 56 ∷ 73 ∷ 9 ∷ 100 ∷ 40 ∷ 9 ∷ []

computed : Computed (cases.copied 8 1) corner × Computed (cases.filtered 8 1) smooth × Computed (cases.bilinear 8 1) between
unfolding Each kind_of put_rects order_dst or_same fill fill_in paint in_block row_of row_from need size_ok stride_ok holds whole_filters place_ok flags_ok type_ok
    sixteenth_ok fraction_ok subpel_ok filter_in plane_side frame_sizes_ok frame_names_ok before after kind_size_ok motion_ok filters_ok put_picture put_rule put8_rule put8 mid
    axis family filter tapped S sum_z low16 endless around_at bilin R along down bilin_mid put_bilin
computed = (
  record { first = (refl, (refl, (refl, tt))); then = (refl, tt); long = refl; run = refl },
  record { first = (refl, (refl, (refl, tt))); then = (refl, tt); long = refl; run = refl },
  record { first = (refl, (refl, (refl, tt))); then = (refl, tt); long = refl; run = refl },
)

-- calls that each answer 0, the last a column off, and leave dst, which isn't the block
pub record Off (t : cases.Case) (dst : List ℕ) : Type 0 where
  pub halfway : List ℕ
  pub first : PutCalls (put_says (cases.setting t) true (cases.kind_in t)) (negsuc 0) (pos 0) t.stride (three t) (cases.before t) halfway
  pub then : PutCalls (put_says (cases.setting t) true (cases.kind_in t)) (pos 0) (pos 0) t.stride (last t) halfway dst
  pub wrong : dst ≡ fill (cases.before t) t.stride (t.a + t.b) (t.c + t.d) (endless_put (cases.setting t) (cases.block t)) → ⊥

off : (t : cases.Case) (dst left : List ℕ) → Computed t dst → right.Computed t left → (dst ≡ left → ⊥) → Off t dst
unfolding row_of row_from
off t dst left k block differs =
    record {
      halfway = halfway t;
      first =
          rects_calls (cases.setting t) (cases.block t) t.stride (cases.places t) scratch (three t) (cases.before t)
          (length-row_of (cases.places t) _) k.first;
      then =
          subst (PutCalls (put_says (cases.setting t) true (cases.kind_in t)) (pos 0) (pos 0) t.stride (last t) (halfway t)) k.run
          (rects_calls (cases.setting t) (beside t) t.stride (cases.places t) scratch (last t) (halfway t) k.long k.then);
      wrong = λ e. differs (e ∙ block.whole);
    }

-- of a copied, an 8-tap and a bilinear block: the fourth rectangle's first pixel is 40, 66 and 40, and would be 100, 68 and 81
pub column_off : Off (cases.copied 8 1) corner × Off (cases.filtered 8 1) smooth × Off (cases.bilinear 8 1) between
column_off = (
  off (cases.copied 8 1) corner right.corner8 computed.0 (right.computed).0 (λ e. omega (arith, ap (λ (l : List ℕ). get_or l 9 0) e)),
  off (cases.filtered 8 1) smooth right.smooth8 computed.1 (right.computed).2 (λ e. omega (arith, ap (λ (l : List ℕ). get_or l 4 0) e)),
  off (cases.bilinear 8 1) between right.between8 computed.2 (right.computed).5 (λ e. omega (arith, ap (λ (l : List ℕ). get_or l 4 0) e)),
)
