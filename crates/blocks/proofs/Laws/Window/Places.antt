-- Windows and rows, refusal number 5: the lent plane is tested whole. It is accepted exactly where it holds each pixel of the named plane, also those that the
-- window or the row hasn't. What is fetched from it is `edge`, of which Edge/Places tells. Assumes nothing.
use mathlib.Core.Path.{◌≡◌, refl}
use mathlib.Core.Bool.{Bool, true}
use Prim.Native.Nat.{ℕ, ◌≤◌}
use lib.IntN.{ℤ}
use lib.ListN.{length}
use Rattle.rows.proofs.Laws.Blocks.Fill.{and_true}
use Rattle.blocks.specs.Refuse.{holds}
use Rattle.blocks.specs.Window.{LentPlane, Asked, lent_w, lent_h, window_tests, row_tests}
use Rattle.blocks.proofs.Laws.Calls.Given.{met}
use Rattle.blocks.proofs.Laws.Loops.Places.{AllHeld, holds_all_lem, all_holds}

abbrev pub PlaneHeld : LentPlane → Type 0
PlaneHeld p = AllHeld (length p.plane) p.stride (lent_w p) (lent_h p)

module _ (p : LentPlane) where
  abbrev held_whole : Bool
  held_whole = holds (length p.plane) p.stride (lent_w p) (lent_h p)

  pub plane-inside : held_whole ≡ true → PlaneHeld p
  plane-inside e = holds_all_lem (length p.plane) p.stride (lent_w p) (lent_h p) e

  pub inside-plane : 1 ≤ lent_w p → 1 ≤ lent_h p → PlaneHeld p → held_whole ≡ true
  inside-plane w1 h1 f = all_holds (length p.plane) p.stride (lent_w p) (lent_h p) w1 h1 f

  pub window_inside : (q : Asked) (sl : ℕ) → met 5 (window_tests p q sl) ≡ true → PlaneHeld p
  window_inside q sl e = plane-inside (and_true held_whole true e).0

  pub inside_window : (q : Asked) (sl : ℕ) → 1 ≤ lent_w p → 1 ≤ lent_h p → PlaneHeld p → met 5 (window_tests p q sl) ≡ true
  inside_window q sl w1 h1 f = rw (inside-plane w1 h1 f) refl

  pub row_inside : (row : ℤ) → met 5 (row_tests p row) ≡ true → PlaneHeld p
  row_inside row e = plane-inside (and_true held_whole true e).0

  pub inside-row : (row : ℤ) → 1 ≤ lent_w p → 1 ≤ lent_h p → PlaneHeld p → met 5 (row_tests p row) ≡ true
  inside-row row w1 h1 f = rw (inside-plane w1 h1 f) refl
