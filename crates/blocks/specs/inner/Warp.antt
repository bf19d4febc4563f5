-- Warp, as the code goes. Only inner contracts name this: nobody need believe it. Assumes nothing.
use Rattle.std.specs.Prelude.{ℕ, ◌-◌, ℤ, pos, List}
use Rattle.rows.specs.Numbers.{low16}
use Rattle.rows.specs.Warp.{warped}
use Rattle.blocks.specs.inner.Source.{around_in}
use Rattle.blocks.specs.declared.source.Stand.{Stand}

-- what the first pass writes at row r of column i, the rows counted from three above the block
abbrev pub first_in : (B : ℕ) → List ℤ → (m a b : ℤ) → List ℕ → Stand → ℕ → ℕ → ℤ
first_in B table m a b src s r i = low16 (warped table m a b (7 - B) r i (λ u. pos (around_in 3 src s i 0 u r)))
