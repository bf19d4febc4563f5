-- Warp, as the code goes. Only inner contracts name this: nobody need believe it. Assumes nothing.
use Rattle.std.specs.Prelude.{ℕ, ◌<◌, ◌≡◌, ℤ, true}
use Rattle.rows.specs.Warp.{filter_no, is_there}

-- the filters of row r of a pass are
abbrev pub RowThere : ℕ → (m a b : ℤ) → ℕ → Type 0
RowThere n m a b r = (c : ℕ) → c < 8 → is_there n (filter_no m a b r c) ≡ true
