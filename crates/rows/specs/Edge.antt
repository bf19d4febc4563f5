-- A plane that goes on for ever by repeating its border pixels: `emu_edge`, and the plane that demand 3 speaks of. Assumes nothing.
use Rattle.std.specs.Prelude.{ℕ, ◌+◌, ◌-◌, ℤ, pos, ◌+ℤ◌, ◌-ℤ◌, List}
use Rattle.rows.specs.Numbers.{clip}
use Rattle.rows.specs.Places.{pixel}

-- the plane's pixel nearest to column x, row y
unfoldable pub endless : List ℕ → (s iw ih : ℕ) → ℤ → ℤ → ℕ
endless plane s iw ih x y = pixel plane s (clip (iw - 1) x) (clip (ih - 1) y)

-- "block place (i, j) gets the plane's pixel at column clamp(x+i, 0, iw-1), row clamp(y+j, 0, ih-1)"
unfoldable pub edge : List ℕ → (s iw ih : ℕ) → ℤ → ℤ → ℕ → ℕ → ℕ
edge plane s iw ih x y i j = endless plane s iw ih (x +ℤ pos i) (y +ℤ pos j)

-- the pixels around column i of row j of a block at x, y of the endless plane g: column 0 and row 0 stand m columns left of and m rows above it
unfoldable pub around_at : ℕ → (ℤ → ℤ → ℕ) → ℤ → ℤ → ℕ → ℕ → ℕ → ℕ → ℕ
around_at m g x y i j a b = g ((x -ℤ pos m) +ℤ pos (i + a)) ((y -ℤ pos m) +ℤ pos (j + b))
