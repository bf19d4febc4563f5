-- Frames, windows and the row helper: sides, numbers, answers, and the parts that they name. Assumes nothing.
use Rattle.std.specs.Prelude.{ℕ, ◌+◌, ◌*◌, ◌/◌, leb, eqb, ℤ, pos, ◌+ℤ◌, ◌-ℤ◌, length, Bool, true, false, ◌&&◌, ◌||◌, List, [], ◌∷◌, ◌≡◌}
use Rattle.std.specs.Int.Signed.{le_z, lt_z}
use Rattle.rows.specs.Numbers.{up}
use Rattle.rows.specs.Places.{pick, span, fill, around}
use Rattle.rows.specs.Edge.{edge}
use Rattle.blocks.specs.Refuse.{Test, size, stride, number, read, written, ◌asks◌, lowest, or_same, size_ok, block_side, stride_ok, part_len, holds, holds_all}
use Rattle.blocks.specs.Edge.{place_ok}
use Rattle.blocks.specs.WMask.{flags_ok}
use Rattle.blocks.specs.declared.frame.Area.{Area}
use Rattle.blocks.specs.declared.frame.Frame.{Frame}
use Rattle.blocks.specs.declared.window.Part.{Part}

-- ---- the frame

-- "a chroma plane's side is the luma side divided by two, rounded up, where its flag is set; a call names luma (0) or chroma (1)" (as E3 amends it: so
-- an odd picture's last column has its chroma, Laws/Window/OddPictures)
unfoldable pub plane_side : (plane_no : ℕ) (flag : Bool) (luma : ℕ) → ℕ
plane_side plane_no flag luma = pick (eqb plane_no 1 && flag) ((luma + 1) / 2) luma

abbrev pub plane_w : Frame → ℕ → ℕ
plane_w f plane_no = plane_side plane_no f.ss_hor f.luma_w

abbrev pub plane_h : Frame → ℕ → ℕ
plane_h f plane_no = plane_side plane_no f.ss_ver f.luma_h

-- "Luma sides 1 to 16,384"; "a side of 0 of the named plane is number 1", which since E3 is no reason of its own: only a luma side of 0 has a half of 0
-- (chroma_never_empty in Laws/Window/OddPictures)
unfoldable pub frame_sizes_ok : Frame → ℕ → Bool
frame_sizes_ok f plane_no = (size_ok 16384 f.luma_w && size_ok 16384 f.luma_h) && (leb 1 (plane_w f plane_no) && leb 1 (plane_h f plane_no))

-- "a call names luma (0) or chroma (1), else number 3"; "ss_ver without ss_hor"
unfoldable pub frame_names_ok : Frame → ℕ → Bool
frame_names_ok f plane_no = flags_ok f.ss_hor f.ss_ver && leb plane_no 1

-- ---- a plane that a call is lent: its frame, which of the frame's planes it is, its pixels, and how far apart its rows stand
pub record LentPlane : Type 0 where
  pub frame : Frame
  pub plane_no : ℕ
  pub plane : List ℕ
  pub stride : ℕ

-- its sides
abbrev pub lent_w : LentPlane → ℕ
lent_w p = plane_w p.frame p.plane_no

abbrev pub lent_h : LentPlane → ℕ
lent_h p = plane_h p.frame p.plane_no

-- ---- the window of a block; kind is 0 copy, 1 8-tap, 2 bilinear, 3 warp

-- "margins 3 before and 4 after on both axes (8-tap, warp), 0 and 1 (bilinear) or none (copy)"
abbrev pub eight_taps : ℕ → Bool
eight_taps kind = eqb kind 1 || eqb kind 3

unfoldable pub before : ℕ → ℕ
before kind = pick (eight_taps kind) 3 0

unfoldable pub after : ℕ → ℕ
after kind = pick (eight_taps kind) 4 (pick (eqb kind 2) 1 0)

-- its sides, from the block's
abbrev pub window_side : (kind side : ℕ) → ℕ
window_side kind side = before kind + side + after kind

-- its first column or row, from the block's position
abbrev pub window_start : (kind : ℕ) → ℤ → ℤ
window_start kind x = x -ℤ pos (before kind)

-- the window that a call asks for: of a block of w columns and h rows at x and y
pub record Asked : Type 0 where
  pub kind : ℕ
  pub w : ℕ
  pub h : ℕ
  pub x : ℤ
  pub y : ℤ
  pub mode : ℕ

abbrev pub window_tests : LentPlane → Asked → (sl : ℕ) → List Test
window_tests p q sl =
    size asks frame_sizes_ok p.frame p.plane_no
    ∷ size asks size_ok block_side q.w
    ∷ size asks size_ok block_side q.h
    ∷ stride asks stride_ok (lent_w p) p.stride
    ∷ number asks frame_names_ok p.frame p.plane_no
    ∷ number asks leb q.kind 3
    ∷ number asks place_ok q.x
    ∷ number asks place_ok q.y
    ∷ number asks leb q.mode 1
    ∷ read asks holds (length p.plane) p.stride (lent_w p) (lent_h p)
    ∷ written asks holds_all sl (window_side q.kind q.w) (window_side q.kind q.h)
    ∷ []

-- its area on the endless plane
abbrev pub area_of : LentPlane → Asked → Area
area_of p q =
    record {
      ww = window_side q.kind q.w;
      wh = window_side q.kind q.h;
      iw = lent_w p;
      ih = lent_h p;
      left = window_start q.kind q.x;
      top = window_start q.kind q.y;
    }

-- n columns from x on lie inside a side
unfoldable pub inside : ℤ → (n side : ℕ) → Bool
inside x n side = le_z (pos 0) x && le_z (x +ℤ pos n) (pos side)

-- "Mode 0 becomes always scratch, and mode 1 becomes a part of the plane where the window is inside it" (E12); 0 is still the default
abbrev pub always_scratch : ℕ
always_scratch = 0

abbrev pub plane_if_inside : ℕ
plane_if_inside = 1

unfoldable pub is_planes : (mode : ℕ) → Area → Bool
is_planes mode a = eqb mode plane_if_inside && (inside a.left a.ww a.iw && inside a.top a.wh a.ih)

abbrev pub own_plane : LentPlane → Asked → Bool
own_plane p q = is_planes q.mode (area_of p q)

-- "One call answers number, buffer (1 plane, 2 scratch), place and stride"; "Scratch has the window's width as stride"; "The part begins at the window's
-- first pixel and ends after its last"
unfoldable pub window_at : (planes : Bool) (planeStride : ℕ) → Area → Part
window_at true planeStride a =
    record {
      number = 0;
      buffer = 1;
      place = up a.top * planeStride + up a.left;
      stride = planeStride;
      len = part_len planeStride a.ww a.wh;
    }
window_at false planeStride a = record { number = 0; buffer = 2; place = 0; stride = a.ww; len = part_len a.ww a.ww a.wh }

-- refused: the number and zeros
abbrev pub no_part : ℕ → Part
no_part verdict = record { number = verdict; buffer = 0; place = 0; stride = 0; len = 0 }

unfoldable pub window_of : LentPlane → Asked → (sl : ℕ) → Part
window_of p q sl =
    let verdict = lowest (window_tests p q sl) in
    or_same verdict (window_at (own_plane p q) p.stride (area_of p q)) (no_part verdict)

-- "else scratch is filled by emu_edge"; "only the window's places change"
unfoldable pub fetched : (planes : Bool) (plane : List ℕ) (planeStride : ℕ) → Area → List ℕ → List ℕ
fetched true plane planeStride a scratch = scratch
fetched false plane planeStride a scratch = fill scratch a.ww a.ww a.wh (edge plane planeStride a.iw a.ih a.left a.top)

unfoldable pub scratch_of : (verdict : ℕ) → LentPlane → Asked → List ℕ → List ℕ
scratch_of verdict p q scratch = or_same verdict (fetched (own_plane p q) p.plane p.stride (area_of p q) scratch) scratch

-- "a second on the same arguments gives the part, empty where refused"
unfoldable pub part_of : Part → (plane scratch : List ℕ) → List ℕ
part_of p plane scratch =
    pick (eqb p.buffer 1) (span plane p.place (p.place + p.len))
    (pick (eqb p.buffer 2) (span scratch p.place (p.place + p.len)) [])

-- the pixels around column i of row j of the block, in a buffer of stride s that begins at its window's first pixel
abbrev pub around_part : (kind : ℕ) → List ℕ → (s i j : ℕ) → ℕ → ℕ → ℕ
around_part kind part s i j = around (before kind) part (before kind * s + before kind) s i j

-- ---- "A helper hands back one row of a plane as a part of it; a row outside 0 to height - 1 is number 3"
abbrev pub row_tests : LentPlane → (row : ℤ) → List Test
row_tests p row =
    size asks frame_sizes_ok p.frame p.plane_no
    ∷ stride asks stride_ok (lent_w p) p.stride
    ∷ number asks frame_names_ok p.frame p.plane_no
    ∷ number asks (le_z (pos 0) row && lt_z row (pos (lent_h p)))
    ∷ read asks holds (length p.plane) p.stride (lent_w p) (lent_h p)
    ∷ []

unfoldable pub row_at : LentPlane → (row : ℤ) → Part
row_at p row =
    let verdict = lowest (row_tests p row) in
    or_same verdict
    (record { number = 0; buffer = 1; place = up row * p.stride; stride = p.stride; len = lent_w p })
    (no_part verdict)

-- ---- what the C functions answer: the number r, and a part's other numbers
abbrev pub PartAnswer : Part → (r buffer place apart len : ℕ) → Type 0
PartAnswer p r buffer place apart len = (r ≡ p.number) × (buffer ≡ p.buffer) × (place ≡ p.place) × (apart ≡ p.stride) × (len ≡ p.len)

-- and scratch at the end
abbrev pub WindowAnswer : LentPlane → Asked → (scratch : List ℕ) → (r buffer place apart len : ℕ) (scratch' : List ℕ) → Type 0
WindowAnswer p q scratch r buffer place apart len scratch' =
    PartAnswer (window_of p q (length scratch)) r buffer place apart len × (scratch' ≡ scratch_of r p q scratch)
