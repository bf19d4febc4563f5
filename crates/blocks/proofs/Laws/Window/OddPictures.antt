-- Odd pictures (E3): a chroma plane has a column for every luma column, and the C functions of windows and rows hand out each, the last one too. What is
-- said of columns holds of rows, for both sides are planeSide's. Assumes nothing.
use Rattle.blocks.proofs.Usual.{true, Bool, false, ◌&&◌, List, [], ◌≡◌, ◌∙◌, refl, ap, ℕ, ◌≤◌, ◌*◌, ◌+◌, ◌-◌, ◌<◌, ◌^◌, ◌/◌, arith, le-leb, lt-ltb, leb}
use Rattle.blocks.proofs.Usual.{eqb, pos, ◌+ℤ◌, ◌-ℤ◌, length, get_or, clip, pixel, lowest, holds, stride_ok, size_ok, need, or_same, LentPlane, window_tests}
use Rattle.blocks.proofs.Usual.{area_of, Asked, lent_w, lent_h, before, frame_names_ok, after, window_of, frame_sizes_ok, plane_side, part_of, is_planes, window_at}
use Rattle.blocks.proofs.Usual.{scratch_of, row_at, Rows, and_true, row_fits, one-part, add_parts, sub_parts, done, size_met}
use Rattle.rows.specs.Places.{pick}
use Rattle.rows.specs.Edge.{endless}
use Rattle.rows.proofs.Laws.Numbers.Signed.{clip-up}
use Rattle.rows.proofs.Laws.Blocks.Places.{span-at}
use Rattle.blocks.specs.Edge.{place_ok}
use Rattle.blocks.specs.WMask.{flags_ok}
use Rattle.blocks.specs.Window.{plane_w, plane_h, plane_if_inside}
use Rattle.blocks.specs.Window.{inside, own_plane, row_tests, PartAnswer, WindowAnswer}
use Rattle.blocks.proofs.Laws.Window.Ready.{side_le, met_window, window_number}
use Rattle.blocks.proofs.Laws.Window.Holds.{part-pixel}
use Rattle.blocks.proofs.Laws.Window.Rows.{met_row}
use Rattle.blocks.specs.declared.frame.Frame.{Frame}
use Rattle.blocks.specs.declared.window.Part.{Part}

-- ---- the side of a subsampled plane
-- Luma's column c lies over chroma's column c / 2. Of n luma columns, the chroma columns are
pub record Covers (n side : ℕ) : Type 0 where
  -- half as many, rounded up; at least one
  pub half : side ≡ (n + 1) / 2
  pub some : 1 ≤ side
  -- one for every luma column
  pub each : (c : ℕ) → c < n → c / 2 < side
  -- and none beside: column k is that of luma's column 2 k, and the last that of luma's last
  pub no_more : (k : ℕ) → k < side → 2 * k < n
  pub last : side - 1 ≡ (n - 1) / 2

-- "Subsampled sides round up, not down": of every luma side, those from 1 to 16,384 among them
pub rounded_up : (n : ℕ) → 1 ≤ n → Covers n (plane_side 1 true n)
unfolding plane_side
rounded_up n one =
    record { half = refl; some = omega arith; each = λ c below. omega arith; no_more = λ k below. omega arith; last = omega arith }

-- rounded down, columns are lost: 641 luma columns have 320 then, and luma's last lies over none of them
rounded_down : ((n c : ℕ) → c < n → c / 2 < n / 2) → ⊥
rounded_down law = omega (arith, law 641 640 (omega arith))

-- ---- number 1
-- no plane has a side of 0 where luma has none
pub side_some : (plane_no : ℕ) (flag : Bool) (luma : ℕ) → 1 ≤ luma → 1 ≤ plane_side plane_no flag luma
unfolding plane_side
side_some plane_no flag luma one = go (eqb plane_no 1 && flag) (omega arith) where
  go : (b : Bool) {half : ℕ} → 1 ≤ half → 1 ≤ pick b half luma
  go true h = h
  go false h = one

-- so number 1 is for luma's sides alone, whichever plane is named
pub chroma_never_empty : (f : Frame) (plane_no : ℕ) → frame_sizes_ok f plane_no ≡ (size_ok 16384 f.luma_w && size_ok 16384 f.luma_h)
unfolding frame_sizes_ok
chroma_never_empty f plane_no = go (size_ok 16384 f.luma_w && size_ok 16384 f.luma_h) sides where
  some : (flag : Bool) (luma : ℕ) → size_ok 16384 luma ≡ true → leb 1 (plane_side plane_no flag luma) ≡ true
  some flag luma e = le-leb 1 (plane_side plane_no flag luma) (side_some plane_no flag luma (size_met 16384 luma e).0)

  sides : (size_ok 16384 f.luma_w && size_ok 16384 f.luma_h) ≡ true → (leb 1 (plane_w f plane_no) && leb 1 (plane_h f plane_no)) ≡ true
  sides e =
      let p = and_true (size_ok 16384 f.luma_w) (size_ok 16384 f.luma_h) e in
      rw (some f.ss_hor f.luma_w p.0, some f.ss_ver f.luma_h p.1) refl

  go : (b : Bool) {rest : Bool} → (b ≡ true → rest ≡ true) → (b && rest) ≡ b
  go true h = h refl
  go false h = refl

-- ---- every column of the named plane is handed out
-- a frame that is allowed, and the rows of the plane that the call names
pub record Allowed (p : LentPlane) : Type 0 where
  pub wide : (1 ≤ p.frame.luma_w) × (p.frame.luma_w ≤ 16384)
  pub high : (1 ≤ p.frame.luma_h) × (p.frame.luma_h ≤ 16384)
  pub flags : flags_ok p.frame.ss_hor p.frame.ss_ver ≡ true
  pub named : p.plane_no ≤ 1
  pub rows : Rows (length p.plane) p.stride (lent_w p) (lent_h p)

-- the window of the one pixel in column x of row y, without margins
abbrev pub one_pixel : (x y mode : ℕ) → Asked
one_pixel x y mode = record { kind = 0; w = 1; h = 1; x = pos x; y = pos y; mode = mode }

-- the part that a C function's numbers name
abbrev pub answered : (r buffer place apart len : ℕ) → Part
answered r buffer place apart len = record { number = r; buffer = buffer; place = place; stride = apart; len = len }

answered_is : (p : Part) {r b o s l : ℕ} → PartAnswer p r b o s l → answered r b o s l ≡ p
answered_is p a = rw (a.0, a.1, a.2, a.3, a.4) refl

-- inside a side, the nearest column is the column itself
nearest : (side x : ℕ) → x < side → clip (side - 1) ((pos x -ℤ pos 0) +ℤ pos 0) ≡ x
nearest side x below =
    let z = pos x -ℤ pos 0 in
    omega (arith, clip-up (side - 1) (z +ℤ pos 0), add_parts z (pos 0), one-part (z +ℤ pos 0), sub_parts (pos x) (pos 0), one-part z)

module _ {p : LentPlane} (ok : Allowed p) where
  sizes : frame_sizes_ok p.frame p.plane_no ≡ true
  unfolding size_ok
  sizes =
      chroma_never_empty p.frame p.plane_no
      ∙ rw (le-leb _ _ ok.wide.0, le-leb _ _ ok.wide.1, le-leb _ _ ok.high.0, le-leb _ _ ok.high.1) refl

  names : frame_names_ok p.frame p.plane_no ≡ true
  unfolding frame_names_ok
  names = rw (ok.flags, le-leb p.plane_no 1 ok.named) refl

  carried : stride_ok (lent_w p) p.stride ≡ true
  unfolding stride_ok
  carried = rw (le-leb _ _ ok.rows.wide, le-leb _ _ ok.rows.most) refl

  held : holds (length p.plane) p.stride (lent_w p) (lent_h p) ≡ true
  unfolding holds
  held = le-leb _ _ ok.rows.fits

  near : (flag : Bool) (luma n : ℕ) → luma ≤ 16384 → n < plane_side p.plane_no flag luma → place_ok (pos n) ≡ true
  unfolding place_ok
  near flag luma n most below = le-leb n (2 ^ 30) (omega (arith, side_le p.plane_no flag luma))

  -- in column x of row y
  module _ {x y : ℕ} (left : x < lent_w p) (above : y < lent_h p) where
    -- a window of that one pixel, in either mode
    module _ {mode : ℕ} (modes : mode ≤ 1) (scratch : List ℕ) (room : 1 ≤ length scratch) where
      window_accepted : lowest (window_tests p (one_pixel x y mode) (length scratch)) ≡ 0
      unfolding size_ok holds before after
      window_accepted =
          met_window p (one_pixel x y mode) (length scratch) (record {
            frame = sizes;
            width = refl;
            height = refl;
            carries = carried;
            names = names;
            kind = refl;
            across = near p.frame.ss_hor p.frame.luma_w x ok.wide.1 left;
            down = near p.frame.ss_ver p.frame.luma_h y ok.high.1 above;
            mode = le-leb mode 1 modes;
            plane = held;
            scratch = le-leb 1 (length scratch) room;
          })

      one_long : (window_of p (one_pixel x y mode) (length scratch)).len ≡ 1
      unfolding window_of window_at before after
      one_long = rw (done _ _ _ window_accepted) (go (own_plane p (one_pixel x y mode))) where
        go : (b : Bool) → (window_at b p.stride (area_of p (one_pixel x y mode))).len ≡ 1
        go true = omega arith
        go false = refl

      -- whatever hv_window answers: the number is 0, and the part that it names is that one pixel
      pub window_names : {r b o s l : ℕ} {d : List ℕ} → WindowAnswer p (one_pixel x y mode) scratch r b o s l d
          → (r ≡ 0) × (l ≡ 1) × (get_or (part_of (answered r b o s l) p.plane d) 0 0 ≡ pixel p.plane p.stride x y)
      unfolding endless before after
      window_names {r} {b} {o} {s} {l} {d} a =
          let w = window_of p (one_pixel x y mode) (length scratch) in
          let filled : ℕ → List ℕ = λ n. scratch_of n p (one_pixel x y mode) scratch in
          let zero : r ≡ 0 = a.0.0 ∙ window_number p (one_pixel x y mode) (length scratch) ∙ window_accepted in
          let is : get_or (part_of w p.plane (filled 0)) 0 0 ≡ pixel p.plane p.stride x y =
          ap (λ (k : ℕ). get_or (part_of w p.plane (filled 0)) k 0) (omega arith)
          ∙ part-pixel p (one_pixel x y mode) scratch window_accepted 0 0 (omega arith) (omega arith)
          ∙ rw (nearest (lent_w p) x left, nearest (lent_h p) y above) refl in
          (zero, a.0.4 ∙ one_long, rw (answered_is w a.0, a.1 ∙ ap filled zero) is)

    -- the row, as the row helper answers it: its part has that pixel in column x
    row_accepted : lowest (row_tests p (pos y)) ≡ 0
    row_accepted =
        met_row p (pos y) (record {
          frame = sizes;
          carries = carried;
          names = names;
          there = rw (le-leb 0 y (omega arith), lt-ltb y (lent_h p) above) refl;
          plane = held;
        })

    abbrev row_part : Part
    row_part = record { number = 0; buffer = 1; place = y * p.stride; stride = p.stride; len = lent_w p }

    row_is : row_at p (pos y) ≡ row_part
    unfolding row_at
    row_is = done _ _ _ row_accepted

    in_row : get_or (part_of row_part p.plane []) x 0 ≡ pixel p.plane p.stride x y
    unfolding part_of
    in_row =
        span-at 0 p.plane (y * p.stride) (y * p.stride + lent_w p)
        (row_fits (length p.plane) p.stride (lent_w p) (lent_h p) y ok.rows.fits above) x (omega arith)

    pub row_names : {r b o s l : ℕ} → PartAnswer (row_at p (pos y)) r b o s l
        → (r ≡ 0) × (l ≡ lent_w p) × (get_or (part_of (answered r b o s l) p.plane []) x 0 ≡ pixel p.plane p.stride x y)
    row_names a =
        let is = answered_is (row_at p (pos y)) a ∙ row_is in
        (ap (λ (v : Part). v.number) is, ap (λ (v : Part). v.len) is, ap (λ (v : Part). get_or (part_of v p.plane []) x 0) is ∙ in_row)

  -- so the last column and the last row are handed out
  pub last_named : {mode : ℕ} → mode ≤ 1 → (scratch : List ℕ) → 1 ≤ length scratch → {r b o s l : ℕ} {d : List ℕ}
      → WindowAnswer p (one_pixel (lent_w p - 1) (lent_h p - 1) mode) scratch r b o s l d
      → (r ≡ 0) × (l ≡ 1) × (get_or (part_of (answered r b o s l) p.plane d) 0 0 ≡ pixel p.plane p.stride (lent_w p - 1) (lent_h p - 1))
  last_named modes scratch room a =
      let w = side_some p.plane_no p.frame.ss_hor p.frame.luma_w ok.wide.0 in
      let h = side_some p.plane_no p.frame.ss_ver p.frame.luma_h ok.high.0 in
      window_names (omega arith) (omega arith) modes scratch room a

-- ---- a picture of 641 x 9 with both flags
abbrev cropped : Frame
cropped = record { luma_w = 641; luma_h = 9; ss_hor = true; ss_ver = true }

-- "A cropped clip 641 pixels wide has 321 chroma columns", and five rows
cropped_sides : (plane_w cropped 1 ≡ 321) × (plane_h cropped 1 ≡ 5)
unfolding plane_side
cropped_sides = (refl, refl)

-- a chroma plane of it without gaps
abbrev cropped_plane : (plane : List ℕ) → LentPlane
cropped_plane plane = record { frame = cropped; plane_no = 1; plane = plane; stride = 321 }

-- every one of 5 rows of 321 meets the premises above
cropped_lent : (plane : List ℕ) → 1605 ≤ length plane → Allowed (cropped_plane plane)
unfolding plane_side flags_ok
cropped_lent plane h =
    record {
      wide = (omega arith, omega arith);
      high = (omega arith, omega arith);
      flags = refl;
      named = omega arith;
      rows = record { wide = omega arith; most = omega arith; fits = omega arith };
    }

-- its last pixel, in column 320 of row 4, is the last of 5 rows of 321; it is handed out, and so is the row with it
cropped_window : (plane : List ℕ) → length plane ≡ 1605
    → window_of (cropped_plane plane) (one_pixel 320 4 plane_if_inside) 1 ≡ record { number = 0; buffer = 1; place = 1604; stride = 321; len = 1 }
unfolding window_of window_at or_same need size_ok stride_ok place_ok holds flags_ok plane_side frame_sizes_ok frame_names_ok before after is_planes inside
cropped_window plane l = rw l refl

cropped_row : (plane : List ℕ) → length plane ≡ 1605
    → row_at (cropped_plane plane) (pos 4) ≡ record { number = 0; buffer = 1; place = 1284; stride = 321; len = 321 }
unfolding row_at or_same need stride_ok size_ok holds flags_ok plane_side frame_sizes_ok frame_names_ok
cropped_row plane l = rw l refl
