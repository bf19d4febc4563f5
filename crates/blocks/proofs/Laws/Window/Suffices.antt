-- A fetched part holds all that the kernel of its kind reads: no kernel that is handed it at the block's first pixel gives number 5. Assumes nothing.
use Rattle.blocks.proofs.Usual.{true, Bool, List, ◌≡◌, refl, ℕ, ◌≤◌, ◌*◌, ◌+◌, ◌-◌, arith, ℤ, length, mul-le-mul_right, add-mul, before, after, reads}
use Rattle.blocks.proofs.Usual.{holds, Rows, Block, le-leb, false, pos, row_of, row_from, stride_ok, size_ok, need, or_same, LentPlane, Asked, frame_names_ok}
use Rattle.blocks.proofs.Usual.{window_of, frame_sizes_ok, plane_side, is_planes, window_at, whole_filters, lowest}
use Rattle.blocks.specs.Edge.{place_ok}
use Rattle.blocks.specs.WMask.{flags_ok}
use Rattle.blocks.specs.Window.{always_scratch, plane_if_inside, inside}
use Rattle.blocks.specs.Copy.{put_tests, prep_tests}
use Rattle.blocks.specs.Subpel.{on, type_ok, sixteenth_ok, fraction_ok, subpel_ok, filter_in, subpel_tests}
use Rattle.blocks.specs.Bilinear.{bilin_tests}
use Rattle.blocks.specs.Warp.{warp_tests}
use Rattle.blocks.proofs.Laws.Calls.Given.{met}
use Rattle.blocks.proofs.Laws.Calls.Refuse.{met_reads}
use Rattle.blocks.proofs.Laws.Window.Holds.{Picked}
use Rattle.blocks.proofs.Laws.Window.Predict.{asked_in, block_at}
use Rattle.blocks.specs.declared.subpel.plan.SubpelMotion.{SubpelMotion}
use Rattle.blocks.specs.declared.order.BilinMotion.{BilinMotion}
use Rattle.blocks.specs.declared.warp.Shears.{Shears}
use Rattle.blocks.specs.declared.order.Kind.TheVariants.{Copy, Subpel, Bilinear, Warp}

-- rows with m places before and n after on both axes hold what is read within them
rows-read : (l s w h m n b b' c c' : ℕ) → Block w h → Rows l s (m + w + n) (m + h + n) → b ≤ m → b' ≤ n → c ≤ m → c' ≤ n
    → reads l (m * s + m) s w h b b' c c' ≡ true
rows-read l s w h m n b b' c c' k r bm bn cm cn =
    let above : c * s ≤ m * s = mul-le-mul_right {m = c} {n = m} s cm in
    let below : (h - 1 + c') * s ≤ (h - 1 + n) * s = mul-le-mul_right {m = h - 1 + c'} {n = h - 1 + n} s (omega arith) in
    let e : m + h + n - 1 ≡ m + (h - 1 + n) = omega (arith, k) in
    let long : (m + (h - 1 + n)) * s + (m + w + n) ≤ l = rw e at r.fits in
    met_reads l (m * s + m) s w h b b' c c' (omega arith) (omega (arith, k, add-mul m (h - 1 + n) s))

module _ (x y : ℤ) (w h : ℕ) (k : Block w h) {mode : ℕ} {g : ℤ → ℤ → ℕ} {src : List ℕ} {s : ℕ} (deep : Bool) (dl ds : ℕ) where
  pub part_8tap : (m : SubpelMotion) (tl el : ℕ) → Picked (asked_in mode (block_at x y w h (Subpel m))) g src s
      → met 5 (subpel_tests deep dl ds (length src) (3 * s + 3) s w h m.mx m.my m.filter_type tl el) ≡ true
  unfolding before after
  part_8tap m tl el p =
      rw (rows-read (length src) s w h 3 4 (3 * on m.mx) (4 * on m.mx) (3 * on m.my) (4 * on m.my) k p.rows
      (omega arith) (omega arith) (omega arith) (omega arith)) refl

  pub part-bilin : (m : BilinMotion) → Picked (asked_in mode (block_at x y w h (Bilinear m))) g src s
      → met 5 (bilin_tests deep dl ds (length src) s w h m.mx m.my) ≡ true
  unfolding before after
  part-bilin m p =
      let first : 0 * s + 0 ≡ 0 = omega arith in
      let r : reads (length src) 0 s w h 0 (on m.mx) 0 (on m.my) ≡ true = rw first at
      (rows-read (length src) s w h 0 1 0 (on m.mx) 0 (on m.my) k p.rows (omega arith) (omega arith) (omega arith) (omega arith)) in
      rw r refl

  module _ (p : Picked (asked_in mode (block_at x y w h Copy)) g src s) where
    part_held : holds (length src) s w h ≡ true
    unfolding before after holds
    part_held =
        let e : 0 + h + 0 - 1 ≡ h - 1 = omega arith in
        let long : (h - 1) * s + (0 + w + 0) ≤ length src = rw e at p.rows.fits in
        le-leb ((h - 1) * s + w) (length src) (omega arith)

    pub part-put : met 5 (put_tests dl ds (length src) s w h) ≡ true
    part-put = rw part_held refl

    pub part-prep : met 5 (prep_tests deep dl ds (length src) s w h) ≡ true
    part-prep = rw part_held refl

pub part-warp : (x y : ℤ) {mode : ℕ} {g : ℤ → ℤ → ℕ} {src : List ℕ} {s : ℕ} (deep : Bool) (dl ds : ℕ) (m : Shears) (tl : ℕ)
    → Picked (asked_in mode (block_at x y 8 8 (Warp m))) g src s
    → met 5 (warp_tests deep dl ds (length src) s (3 * s + 3) m.a m.b m.c m.d m.mx m.my tl) ≡ true
unfolding before after
part-warp x y {src} {s} deep dl ds m tl p =
    let k : Block 8 8 = record { w1 = omega arith; w64 = omega arith; h1 = omega arith; h64 = omega arith } in
    rw (rows-read (length src) s 8 8 3 4 3 4 3 4 k p.rows (omega arith) (omega arith) (omega arith) (omega arith)) refl

-- ---- both calls are accepted: an 8-tap block of 8 x 8 on a plane of 16 x 16, in mode 1 from the plane itself and in mode 0 from scratch
abbrev square : LentPlane
square =
    record {
      frame = record { luma_w = 16; luma_h = 16; ss_hor = false; ss_ver = false };
      plane_no = 0;
      plane = row_of 256 (λ i. i);
      stride = 16;
    }

abbrev middle : (mode : ℕ) → Asked
middle mode = asked_in mode (block_at (pos 4) (pos 4) 8 8 (Subpel (record { mx = pos 4; my = pos 6; filter_type = pos 0 })))

abbrev eight : (sl apart : ℕ) → ℕ
eight sl apart = lowest (subpel_tests true 64 8 sl (3 * apart + 3) apart 8 8 (pos 4) (pos 6) (pos 0) 600 0)

own_then_8tap : (window_of square (middle plane_if_inside) 225 ≡ record { number = 0; buffer = 1; place = 17; stride = 16; len = 239 }) × (eight 239 16 ≡ 0)
unfolding window_of window_at or_same need size_ok stride_ok place_ok holds reads flags_ok plane_side frame_sizes_ok frame_names_ok before after is_planes inside row_of
    row_from whole_filters type_ok sixteenth_ok fraction_ok subpel_ok filter_in
own_then_8tap = (refl, refl)

scratch_then_8tap : (window_of square (middle always_scratch) 225 ≡ record { number = 0; buffer = 2; place = 0; stride = 15; len = 225 }) × (eight 225 15 ≡ 0)
unfolding window_of window_at or_same need size_ok stride_ok place_ok holds reads flags_ok plane_side frame_sizes_ok frame_names_ok before after is_planes inside row_of
    row_from whole_filters type_ok sixteenth_ok fraction_ok subpel_ok filter_in
scratch_then_8tap = (refl, refl)
