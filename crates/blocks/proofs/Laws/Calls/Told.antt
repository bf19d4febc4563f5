-- A struct's numbers as a call passes them: they are what they were, since each is in the range of its type. Assumes nothing.
use Rattle.rows.proofs.Usual.{◌≡◌, ◌<◌, ◌^◌, ℤ, mag, w64, to_z, of_z, back, fit}
use mir.Syntax.{Width}
use mir.Val.{hbits}
use Rattle.blocks.specs.declared.frame.Area.{Area}

-- what is told of a number that stands before others
abbrev pub Told : Width → ℤ → Type 0 → Type 0 → Type 0
Told w z A B = (A × (mag z < 2 ^ hbits w)) × B

abbrev pub passed : Width → ℤ → ℤ
passed w z = to_z w (of_z w z)

pub told_back : (w : Width) {z : ℤ} {A B : Type 0} → Told w z A B → passed w z ≡ z
told_back w g = back (fit w g.0.1)

-- one number, by what is told of it
pub told_one : (w : Width) (z : ℤ) → mag z < 2 ^ hbits w → passed w z ≡ z
told_one w z m = back (fit w m)

-- an area's column and row, which stand behind its four sides
pub left_passed : (a : Area) {A B C D E F : Type 0} → A × (B × (C × (D × Told w64 a.left E F))) → passed w64 a.left ≡ a.left
left_passed a g = let (ww, (wh, (iw, (ih, left)))) = g in told_back w64 left

pub top_passed : (a : Area) {A B C D E F G : Type 0} → A × (B × (C × (D × (E × Told w64 a.top F G)))) → passed w64 a.top ≡ a.top
top_passed a g = let (ww, (wh, (iw, (ih, (left, top))))) = g in told_back w64 top
