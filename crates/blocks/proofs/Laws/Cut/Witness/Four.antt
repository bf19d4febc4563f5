-- A block cut into four rectangles. Assumes nothing.
use mathlib.Core.Path.{◌≡◌, refl}
use mathlib.Core.Bool.{Bool, true, false, ◌||◌}
use mathlib.Core.List.{List, [], ◌∷◌}
use Prim.Native.Nat.{ℕ, ◌+◌}
use native.Mathlib.Omega.{arith}
use lib.Dec.{ltb}
use Rattle.rows.specs.Cut.{Rect, has, covered, Each, Cut, SameSide}
use Rattle.rows.proofs.Laws.Blocks.Places.{by-lt}
use Rattle.rows.proofs.Laws.Cut.Cut.{box_in}

module _ (a b c d : ℕ) where
  -- a and b columns, c and d rows; the last is called first
  abbrev pub r1 : Rect
  r1 = record { x = 0; y = 0; w = a; h = c }

  abbrev pub r2 : Rect
  r2 = record { x = a; y = 0; w = b; h = c }

  abbrev pub r3 : Rect
  r3 = record { x = 0; y = c; w = a; h = d }

  abbrev pub r4 : Rect
  r4 = record { x = a; y = c; w = b; h = d }

  abbrev pub four : List Rect
  four = r4 ∷ r2 ∷ r3 ∷ r1 ∷ []

or_true : (p q : Bool) → q ≡ true → p || q ≡ true
or_true true q e = refl
or_true false q e = e

first_true : (p q : Bool) → p ≡ true → p || q ≡ true
first_true p q e = rw e refl

pub four_cut : (a b c d : ℕ) → Cut (a + b) (c + d) (four a b c d)
unfolding Each covered
four_cut a b c d =
    record {
      inside = (
        record { right = omega arith; low = omega arith },
        (
          record { right = omega arith; low = omega arith },
          (record { right = omega arith; low = omega arith }, (record { right = omega arith; low = omega arith }, tt)),
        ),
      );
      covers =
          λ i j p q.
          by-lt i a
          (λ u.
          by-lt j c
          (λ v.
          or_true (has (r4 a b c d) i j) _ (or_true (has (r2 a b c d) i j) _ (or_true (has (r3 a b c d) i j) _
          (first_true _ _ (box_in (r1 a b c d) i j (omega arith) (omega arith) (omega arith) (omega arith))))))
          λ v.
          or_true (has (r4 a b c d) i j) _ (or_true (has (r2 a b c d) i j) _
          (first_true _ _ (box_in (r3 a b c d) i j (omega arith) (omega arith) (omega arith) (omega arith)))))
          λ u.
          by-lt j c
          (λ v.
          or_true (has (r4 a b c d) i j) _
          (first_true _ _ (box_in (r2 a b c d) i j (omega arith) (omega arith) (omega arith) (omega arith))))
          λ v. first_true _ _ (box_in (r4 a b c d) i j (omega arith) (omega arith) (omega arith) (omega arith));
    }

-- what the two ways of cutting below have: all sides are at most four
pub small_sides : Each (SameSide 3 3) (four 1 2 2 1) × Each (SameSide 2 2) (four 1 1 1 1)
unfolding Each
small_sides = (
  (small refl refl, (small refl refl, (small refl refl, (small refl refl, tt)))),
  (small refl refl, (small refl refl, (small refl refl, (small refl refl, tt)))),
) where
  small : {w h : ℕ} {r : Rect} → ltb 4 r.w ≡ ltb 4 w → ltb 4 r.h ≡ ltb 4 h → SameSide w h r
  small a b = record { width = a; height = b }
