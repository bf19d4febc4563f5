-- `emu_edge`, refusal number 5: the plane is tested whole. It is accepted exactly where it holds each pixel, column i below iw of row j below ih; and the rule
-- reads these alone. Assumes nothing.
use mathlib.Core.Path.{◌≡◌, refl}
use mathlib.Core.Bool.{true}
use mathlib.Core.List.{List}
use Prim.Native.Nat.{ℕ, ◌+◌, ◌-◌, ◌*◌, ◌≤◌}
use lib.IntN.{ℤ, pos, ◌+ℤ◌}
use lib.ListN.{length, get_or}
use Rattle.rows.specs.Numbers.{clip}
use Rattle.rows.specs.Edge.{endless, edge}
use Rattle.rows.proofs.Laws.Blocks.Fill.{and_true}
use Rattle.blocks.specs.Refuse.{holds}
use Rattle.blocks.specs.Edge.{edge_tests}
use Rattle.blocks.proofs.Laws.Calls.Given.{met}
use Rattle.blocks.proofs.Laws.Loops.Places.{AllHeld, holds_all_lem, all_holds, inside_any}
use Rattle.blocks.proofs.Laws.Edge.Ready.{clip_below}

module _ (bw bh iw ih : ℕ) (x y : ℤ) (dl ds pl ps : ℕ) where
  pub edge-inside : met 5 (edge_tests bw bh iw ih x y dl ds pl ps) ≡ true → AllHeld pl ps iw ih
  edge-inside e = holds_all_lem pl ps iw ih (and_true (holds pl ps iw ih) true e).0

  pub inside-edge : 1 ≤ iw → 1 ≤ ih → AllHeld pl ps iw ih → met 5 (edge_tests bw bh iw ih x y dl ds pl ps) ≡ true
  inside-edge w1 h1 f = rw (all_holds pl ps iw ih w1 h1 f) refl

-- the nearest pixel is one of the plane's, so whatever d stands outside
module _ (plane : List ℕ) (s iw ih : ℕ) (w1 : 1 ≤ iw) (h1 : 1 ≤ ih) (all : AllHeld (length plane) s iw ih) (d : ℕ) where
  pub endless-stands : (x y : ℤ) → endless plane s iw ih x y ≡ get_or plane (clip (ih - 1) y * s + clip (iw - 1) x) d
  unfolding endless
  endless-stands x y =
      inside_any plane (clip (ih - 1) y * s + clip (iw - 1) x) 0 d (all (clip (iw - 1) x) (clip (ih - 1) y) (clip_below iw x w1) (clip_below ih y h1))

  pub edge-stands : (x y : ℤ) (i j : ℕ) → edge plane s iw ih x y i j ≡ get_or plane (clip (ih - 1) (y +ℤ pos j) * s + clip (iw - 1) (x +ℤ pos i)) d
  unfolding edge
  edge-stands x y i j = endless-stands (x +ℤ pos i) (y +ℤ pos j)
