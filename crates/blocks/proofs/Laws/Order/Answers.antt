-- The orders' answers: each is the only one, and there are calls of each kind that are accepted. Assumes nothing.
use Rattle.blocks.proofs.Usual.{true, Bool, false, List, [], ◌∷◌, ◌≡◌, refl, ℕ, leb, pos, ℤ, negsuc, fill, row_of, row_from, Setting, put_rule, order_dst}
use Rattle.blocks.proofs.Usual.{kind_size_ok, motion_ok, filters_ok, kind_of, holds, stride_ok, size_ok, need, or_same, whole_filters, before, frame_names_ok}
use Rattle.blocks.proofs.Usual.{after, frame_sizes_ok, plane_side, unique_of}
use Rattle.rows.specs.Places.{paint, fill_in, in_block}
use Rattle.rows.specs.Edge.{endless, around_at}
use Rattle.rows.specs.Warp.{filter_no, is_there, every, all_there}
use Rattle.blocks.specs.words.Depth.{depth_ok}
use Rattle.blocks.specs.Edge.{place_ok}
use Rattle.blocks.specs.WMask.{flags_ok}
use Rattle.blocks.specs.Subpel.{type_ok, sixteenth_ok, fraction_ok, subpel_ok, filter_in}
use Rattle.blocks.specs.Warp.{warp_place_ok}
use Rattle.blocks.specs.Order.{order_number, order_scratch, order_tmp, put_picture}
use Rattle.blocks.specs.Order.{OrderPutAnswer, OrderPrepAnswer}
use Rattle.blocks.specs.declared.order.Order.{Order}
use Rattle.blocks.specs.declared.order.Kind.{Kind}
use Rattle.blocks.specs.declared.order.Kind.TheVariants.{Copy, Subpel, Bilinear, Warp}

module _ (s : Setting) (named : Bool) (o : Order) (scratch : List ℕ) (ds : ℕ) {r r' : ℕ} {c c' : List ℕ} where
  pub order_put_unique : (dst : List ℕ) {d d' : List ℕ} → OrderPutAnswer s named o scratch dst ds r c d → OrderPutAnswer s named o scratch dst ds r' c' d'
      → (r ≡ r') × (c ≡ c') × (d ≡ d')
  order_put_unique dst p q =
      let a = unique_of _ (λ n. order_scratch n s.lent o scratch) (p.0, p.1) (q.0, q.1) in
      let b = unique_of _ (λ n. order_dst n s o ds dst) (p.0, p.2) (q.0, q.2) in
      (a.0, a.1, b.1)

  pub order_prep_unique : (tmp : List ℤ) {d d' : List ℤ} → OrderPrepAnswer s named o scratch tmp ds r c d
      → OrderPrepAnswer s named o scratch tmp ds r' c' d' → (r ≡ r') × (c ≡ c') × (d ≡ d')
  order_prep_unique tmp p q =
      let a = unique_of _ (λ n. order_scratch n s.lent o scratch) (p.0, p.1) (q.0, q.1) in
      let b = unique_of _ (λ n. order_tmp n s o ds tmp) (p.0, p.2) (q.0, q.2) in
      (a.0, a.1, b.1)

-- ---- calls that are accepted, put's and prep's alike: a block of 8 x 8, partly left of a chroma plane of 8 x 16
abbrev left : Kind → Order
left k = record { x = negsuc 4; y = pos 9; w = 8; h = 8; kind = k }

-- with tables of 600, el and wl numbers
abbrev chroma : (deep named : Bool) (o : Order) (el wl sl : ℕ) → ℕ
chroma deep named o el wl sl = order_number setting named o sl 64 8 where
  setting : Setting
  setting =
      record {
        deep = deep;
        depth = 8;
        lent = record {
          frame = record { luma_w = 16; luma_h = 16; ss_hor = true; ss_ver = false };
          plane_no = 1;
          plane = row_of 128 (λ i. i);
          stride = 8;
        };
        tables = record { subpel = row_of 600 (λ i. pos i); ext = row_of el (λ i. pos i); warp = row_of wl (λ i. pos i) };
      }

copy_accepts : chroma true true (left Copy) 0 0 64 ≡ 0
unfolding row_of row_from need size_ok stride_ok holds whole_filters place_ok flags_ok subpel_ok plane_side frame_sizes_ok frame_names_ok before after kind_size_ok
    motion_ok filters_ok
copy_accepts = refl

-- with the type -1, whose filters are in ext, at depth 12
subpel_accepts : chroma (depth_ok (pos 12)) true (left (Subpel (record { mx = pos 4; my = pos 6; filter_type = negsuc 0 }))) 48 0 225 ≡ 0
unfolding row_of row_from need size_ok stride_ok holds depth_ok whole_filters place_ok flags_ok type_ok sixteenth_ok fraction_ok subpel_ok filter_in plane_side
    frame_sizes_ok frame_names_ok before after kind_size_ok motion_ok filters_ok
subpel_accepts = refl

bilin_accepts : chroma true true (left (Bilinear (record { mx = pos 4; my = pos 6 }))) 0 0 81 ≡ 0
unfolding row_of row_from need size_ok stride_ok holds whole_filters place_ok flags_ok sixteenth_ok subpel_ok plane_side frame_sizes_ok frame_names_ok before after
    kind_size_ok motion_ok filters_ok
bilin_accepts = refl

warp_accepts : chroma true true (left (Warp (record { a = pos 0; b = pos 0; c = pos 0; d = pos 0; mx = pos 0; my = pos 0 }))) 0 1544 225 ≡ 0
unfolding row_of row_from need size_ok stride_ok holds whole_filters place_ok flags_ok subpel_ok warp_place_ok all_there every is_there filter_no plane_side
    frame_sizes_ok frame_names_ok before after kind_size_ok motion_ok filters_ok
warp_accepts = refl

-- a kind that isn't one of the four is refused as a number
unnamed : chroma true (leb 4 3) (left (kind_of 4 (pos 99) (pos 0) (pos 0) (pos 0) (pos 0) (pos 0) (pos 0))) 0 0 64 ≡ 3
unfolding row_of row_from need size_ok stride_ok holds whole_filters place_ok flags_ok subpel_ok plane_side frame_sizes_ok frame_names_ok before after kind_of
    kind_size_ok motion_ok filters_ok
unnamed = refl

-- a row of three, copied from a plane of two pixels, far below it
abbrev two_pixels : Setting
two_pixels =
    record {
      deep = true;
      depth = 8;
      lent = record {
        frame = record { luma_w = 2; luma_h = 1; ss_hor = false; ss_ver = false };
        plane_no = 0;
        plane = 5 ∷ 9 ∷ [];
        stride = 2;
      };
      tables = record { subpel = []; ext = []; warp = [] };
    }

copied : order_dst 0 two_pixels (record { x = pos 0; y = pos 70; w = 3; h = 1; kind = Copy }) 4 (1 ∷ 2 ∷ 3 ∷ 4 ∷ []) ≡ 5 ∷ 9 ∷ 9 ∷ 4 ∷ []
unfolding order_dst or_same fill fill_in paint in_block put_picture put_rule around_at endless before plane_side
copied = refl
