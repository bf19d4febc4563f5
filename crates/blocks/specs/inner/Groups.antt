-- Rows of intermediates, eight at a time. Only inner contracts name this: nobody need believe it. Assumes nothing.
use Rattle.std.specs.Prelude.{ℕ, ◌+◌, ◌*◌, ltb, ℤ, length, List}
use Rattle.rows.specs.Numbers.{at}
use Rattle.rows.specs.Places.{pick, row_of}

-- the n numbers from place 8 x 64 on at the front, all others as they were
unfoldable pub carried : (n : ℕ) → List ℤ → List ℤ
carried n m = row_of (length m) (λ p. pick (ltb p n) (at m (p + 8 * 64)) (at m p))
