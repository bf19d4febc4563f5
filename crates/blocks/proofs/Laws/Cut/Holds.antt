-- Demand 3's premises can be met, and its law without the side of four would be false: both by a block of one row from a plane of one pixel. Assumes
-- nothing.
use Rattle.blocks.proofs.Usual.{true, Bool, false, List, [], ◌∷◌, ◌≡◌, ◌∙◌, refl, sym, ap, ℕ, ◌≤◌, ◌+◌, arith, ltb, pos, length, get_or, fill, row_of}
use Rattle.blocks.proofs.Usual.{row_from, Setting, put_rule, order_dst, kind_size_ok, motion_ok, filters_ok, holds, stride_ok, size_ok, need, or_same}
use Rattle.blocks.proofs.Usual.{whole_filters, before, frame_names_ok, after, frame_sizes_ok, plane_side, by-lt}
use mathlib.Core.Bool.{cond, ◌||◌}
use Rattle.rows.specs.Numbers.{sum_z}
use Rattle.rows.specs.Places.{paint, fill_in, in_block}
use Rattle.rows.specs.Edge.{endless, around_at}
use Rattle.rows.specs.Subpel.{filter, family, axis, S, tapped, put8}
use Rattle.rows.specs.Cut.{Rect, has, covered, Each, Cut}
use Rattle.rows.proofs.Laws.Cut.Cut.{box_in}
use Rattle.blocks.specs.Edge.{place_ok}
use Rattle.blocks.specs.WMask.{flags_ok}
use Rattle.blocks.specs.Subpel.{type_ok, sixteenth_ok, fraction_ok, subpel_ok, filter_in, put8_rule}
use Rattle.blocks.specs.Order.{put_picture, endless_put}
use Rattle.blocks.specs.Cut.{unwarped, call_number, put_rects, put_number}
use Rattle.blocks.specs.declared.order.Order.{Order}
use Rattle.blocks.specs.declared.order.Kind.TheVariants.{Subpel}
use Rattle.blocks.proofs.Laws.Cut.Demand.{PutCut, prep_number}

-- a plane of one pixel, 7, and a table whose families 0 to 2 make every pixel 0 and whose families 3 and 4 keep it
abbrev one_pixel : ℕ → Setting
one_pixel depth =
    record {
      deep = true;
      depth = depth;
      lent = record {
        frame = record { luma_w = 1; luma_h = 1; ss_hor = false; ss_ver = false };
        plane_no = 0;
        plane = 7 ∷ [];
        stride = 1;
      };
      tables = record { subpel = row_of 600 (λ t. pos (cond (ltb t 360) 0 8)); ext = []; warp = [] };
    }

-- an 8-tap block of one row, at a fraction across
abbrev row : ℕ → Order
row w = record { x = pos 0; y = pos 0; w = w; h = 1; kind = Subpel (record { mx = pos 1; my = pos 0; filter_type = pos 0 }) }

-- its first a columns, and the b columns after them
abbrev left : ℕ → Rect
left a = record { x = 0; y = 0; w = a; h = 1 }

abbrev right : (a b : ℕ) → Rect
right a b = record { x = a; y = 0; w = b; h = 1 }

abbrev parts : (a b : ℕ) → List Rect
parts a b = left a ∷ right a b ∷ []

or_true : (a : Bool) → a || true ≡ true
or_true true = refl
or_true false = refl

parts_cut : (a b : ℕ) → Cut (a + b) 1 (parts a b)
unfolding Each covered
parts_cut a b =
    record {
      inside = (record { right = omega arith; low = omega arith }, (record { right = omega arith; low = omega arith }, tt));
      covers =
          λ i j p q.
          by-lt i a
          (λ l. rw (box_in (left a) i j (omega arith) (omega arith) (omega arith) (omega arith)) refl)
          λ l. rw (box_in (right a b) i j (omega arith) (omega arith) (omega arith) (omega arith)) (or_true (has (left a) i j));
    }

-- no call is refused, with a scratch of 136 places: of ten columns in five and five, run as put and as prep, and at once; of five columns in four and one
accepted : (depth : ℕ)
    → Each (λ r. put_number (one_pixel depth) (row 10) 136 10 10 r ≡ 0) (parts 5 5)
    × Each (λ r. prep_number (one_pixel depth) (row 10) 136 r (row_of 5 (λ t. pos 0)) ≡ 0) (parts 5 5)
    × (call_number (one_pixel depth) (row 10) 136 10 10 ≡ 0)
    × Each (λ r. put_number (one_pixel depth) (row 5) 136 5 5 r ≡ 0) (parts 4 1)
unfolding Each row_of row_from need size_ok stride_ok holds whole_filters place_ok flags_ok type_ok sixteenth_ok fraction_ok subpel_ok filter_in
    plane_side frame_sizes_ok frame_names_ok before after kind_size_ok motion_ok filters_ok
accepted depth = ((refl, (refl, tt)), (refl, (refl, tt)), refl, (refl, (refl, tt)))

-- ---- ten columns in five and five meet all premises, at any depth that passed its test

ten : (depth : ℕ) → PutCut (one_pixel depth) (row 10) 136 10 10 (parts 5 5)
unfolding Each unwarped
ten depth =
    record {
      block = record { kind = refl; cut = parts_cut 5 5; sides = (record { width = refl; height = refl }, (record { width = refl; height = refl }, tt)) };
      carries = omega arith;
      accepted = (accepted depth).0;
    }

-- ---- five columns in four and one meet all but the side of four

abbrev zeros : List ℕ
zeros = 0 ∷ 0 ∷ 0 ∷ 0 ∷ 0 ∷ []

-- the calls leave 7 everywhere
five_cut : put_rects (one_pixel 8) (row 5) 136 5 (parts 4 1) zeros ≡ 7 ∷ 7 ∷ 7 ∷ 7 ∷ 7 ∷ []
unfolding put_rects order_dst or_same fill fill_in paint in_block row_of row_from need size_ok stride_ok holds whole_filters place_ok flags_ok type_ok sixteenth_ok
    fraction_ok subpel_ok filter_in plane_side frame_sizes_ok frame_names_ok before after kind_size_ok motion_ok filters_ok put_picture put_rule put8_rule put8 axis
    family filter tapped S sum_z endless around_at
five_cut = refl

-- the block is 0 everywhere
five_block : fill zeros 5 5 1 (endless_put (one_pixel 8) (row 5)) ≡ zeros
unfolding fill fill_in paint in_block row_of row_from plane_side before put_picture put_rule put8_rule put8 axis family filter tapped S sum_z endless around_at
five_block = refl

-- so the law without "each rectangle is on the same side of four pixels" is false
sides_needed : ((s : Setting) (o : Order) (sl stride : ℕ) (rs : List Rect) (dst : List ℕ)
    → unwarped o.kind ≡ true → Cut o.w o.h rs → o.w ≤ stride → Each (λ r. put_number s o sl stride (length dst) r ≡ 0) rs
    → put_rects s o sl stride rs dst ≡ fill dst stride o.w o.h (endless_put s o)) → ⊥
unfolding unwarped
sides_needed law =
    let e = law (one_pixel 8) (row 5) 136 5 (parts 4 1) zeros refl (parts_cut 4 1) (omega arith) (accepted 8).3 in
    omega (arith, ap (λ (d : List ℕ). get_or d 0 0) (sym five_cut ∙ e ∙ five_block))
