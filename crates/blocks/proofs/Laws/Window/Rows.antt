-- A row of a plane: what its number 0 gives. Assumes nothing.
use Rattle.blocks.proofs.Usual.{true, false, ◌&&◌, ◌≡◌, refl, ℕ, ◌≤◌, ◌*◌, ◌+◌, suc, zero, arith, le-leb, ltb-true, ltb, pos, ℤ, negsuc, length, le_z}
use Rattle.blocks.proofs.Usual.{lt_z, up, lowest, holds, stride_ok, or_same, LentPlane, lent_w, lent_h, frame_names_ok, frame_sizes_ok, row_at, and_true, row_fits}
use Rattle.blocks.proofs.Usual.{one-part, le_yes, all_met, holds_met}
use Rattle.rows.proofs.Laws.Numbers.Signed.{lt_yes, lt_no}
use Rattle.blocks.specs.inner.Ready.{PartIn}
use Rattle.blocks.specs.Window.{row_tests, no_part}
use Rattle.blocks.proofs.Laws.Calls.Refuse.{met_all}

-- ---- a row below 0 is none of h rows, and another is where it is below h
pub below_none : (row : ℤ) (h : ℕ) → lt_z row (pos 0) ≡ true → false ≡ le_z (pos 0) row && lt_z row (pos h)
below_none (pos n) h e = absurd (omega (arith, ltb-true n 0 e))
below_none (negsuc n) h e = refl

pub from_none : (row : ℤ) (h : ℕ) → lt_z row (pos 0) ≡ false → ltb (up row) h ≡ le_z (pos 0) row && lt_z row (pos h)
from_none (pos n) h e = rw (le-leb 0 n (omega arith)) refl
from_none (negsuc n) h e = absurd (omega (arith, lt_no (negsuc n) (pos 0) e))

-- ---- what number 0 gives, each test by its name
pub record RowMet (p : LentPlane) (row : ℤ) : Type 0 where
  pub frame : frame_sizes_ok p.frame p.plane_no ≡ true
  pub carries : stride_ok (lent_w p) p.stride ≡ true
  pub names : frame_names_ok p.frame p.plane_no ≡ true
  pub there : le_z (pos 0) row && lt_z row (pos (lent_h p)) ≡ true
  pub plane : holds (length p.plane) p.stride (lent_w p) (lent_h p) ≡ true

module _ (p : LentPlane) (row : ℤ) where
  pub row_met : lowest (row_tests p row) ≡ 0 → RowMet p row
  row_met e =
      let (frame, (carries, (names, (there, (plane, none))))) = all_met (row_tests p row) e in
      record { frame = frame; carries = carries; names = names; there = there; plane = plane }

  pub met_row : RowMet p row → lowest (row_tests p row) ≡ 0
  met_row m = met_all (row_tests p row) (m.frame, (m.carries, (m.names, (m.there, (m.plane, tt)))))

  -- an accepted row is there
  pub row-there : lowest (row_tests p row) ≡ 0 → up row * p.stride + lent_w p ≤ length p.plane
  row-there e =
      let m = row_met e in
      let r = and_true (le_z (pos 0) row) _ m.there in
      row_fits (length p.plane) p.stride (lent_w p) (lent_h p) (up row) (holds_met (length p.plane) p.stride (lent_w p) (lent_h p) m.plane)
      (omega (arith, le_yes (pos 0) row r.0, lt_yes row (pos (lent_h p)) r.1, one-part row))

  pub row_in_plane : (sl : ℕ) → PartIn (row_at p row) (length p.plane) sl
  unfolding row_at or_same
  row_in_plane sl = go (lowest (row_tests p row)) row-there where
    go : (n : ℕ) → (n ≡ 0 → up row * p.stride + lent_w p ≤ length p.plane)
        → PartIn (or_same n (record { number = 0; buffer = 1; place = up row * p.stride; stride = p.stride; len = lent_w p }) (no_part n))
        (length p.plane) sl
    go zero there = record { plane = λ e. there refl; scratch = λ e. absurd (omega arith) }
    go (suc n) there = record { plane = λ e. absurd (omega arith); scratch = λ e. absurd (omega arith) }
