-- Pieces of a side, all on the side's own side of four pixels. Assumes nothing.
use Rattle.std.specs.Prelude.{ℕ, ◌+◌, ◌≤◌, ◌<◌, ltb}
use Rattle.rows.specs.Places.{pick}

-- the shortest piece of a side
unfoldable pub least : ℕ → ℕ
least whole = pick (ltb 4 whole) 5 1

-- what is left of a side, to be cut on
pub record Left (whole left : ℕ) : Type 0 where
  pub enough : least whole ≤ left
  pub most : left ≤ whole

-- a piece of n pixels leaves none, or enough for another
pub record Piece (whole left n : ℕ) : Type 0 where
  pub enough : least whole ≤ n
  pub most : n ≤ left
  pub rest : n < left → n + least whole ≤ left
