-- Where the rows of a source stand, as the code goes: row 0 begins at place off, and each next row `forth` places after it or `back` places before it, of
-- which one is 0. Only inner contracts name this: nobody need believe it. Assumes nothing.
use Rattle.std.specs.Prelude.{ℕ, ◌+◌, ◌-◌, ◌*◌, ◌≤◌, ℤ, pos, ◌+ℤ◌, get_or, List}
use Rattle.rows.specs.Numbers.{clip}
use Rattle.blocks.specs.declared.source.Stand.{Stand}

-- rows that stand a stride apart, each after the one above it
abbrev pub top_down : (off stride : ℕ) → Stand
top_down off stride = record { off = off; forth = stride; back = 0 }

-- the same rows, of which row 0 begins at place off
abbrev pub stand_at : Stand → (off : ℕ) → Stand
stand_at s off = record { off = off; forth = s.forth; back = s.back }

-- where row j begins
unfoldable pub row_first : Stand → ℕ → ℕ
row_first s j = s.off + j * s.forth - j * s.back

-- the rows from row k on
abbrev pub rows_from : Stand → (k : ℕ) → Stand
rows_from s k = record { off = row_first s k; forth = s.forth; back = s.back }

-- the rows from the lower of rows 0 and 1 in memory on
abbrev pub lower_row : Stand → Stand
lower_row s = record { off = s.off - s.back; forth = s.forth; back = s.back }

-- the rows from three above row 0 on, three columns to the left
abbrev pub corner_of : Stand → Stand
corner_of s = record { off = s.off + 3 * s.back - (3 * s.forth + 3); forth = s.forth; back = s.back }

-- the pixel at column i of row j
abbrev pub pixel_in : List ℕ → Stand → (i j : ℕ) → ℕ
pixel_in src s i j = get_or src (row_first s j + i) 0

-- the pixels around column i of row j of the block whose first pixel is row 0's: column 0 and row 0 stand m columns left of and m rows above it
unfoldable pub around_in : ℕ → List ℕ → Stand → (i j : ℕ) → ℕ → ℕ → ℕ
around_in m src s i j a b = get_or src (s.off + (j + b) * s.forth + m * s.back + (i + a) - ((j + b) * s.back + m * s.forth + m)) 0

-- the pixel of a plane of iw columns and ih rows that is nearest to column x + i, row y + j
unfoldable pub edge_in : List ℕ → Stand → (iw ih : ℕ) (x y : ℤ) → ℕ → ℕ → ℕ
edge_in plane s iw ih x y i j = pixel_in plane s (clip (iw - 1) (x +ℤ pos i)) (clip (ih - 1) (y +ℤ pos j))

-- a source of l places has h rows of w that stand so
pub record Stood (l : ℕ) (s : Stand) (w h : ℕ) : Type 0 where
  pub forth : s.forth ≤ 32768
  pub back : s.back ≤ 32768
  pub before : (h - 1) * s.back ≤ s.off
  pub after : s.off + (h - 1) * s.forth + w ≤ l
