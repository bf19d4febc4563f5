-- The search, as the code goes. Only inner contracts name this: nobody need believe it. Assumes nothing.
use Rattle.std.specs.Prelude.{ℕ, ◌+◌, Option, Some, None}
use Rattle.rows.specs.Search.{Best, none, best}
use Rattle.blocks.specs.inner.Source.{row_first}
use Rattle.blocks.specs.declared.search.Best as declared
use Rattle.blocks.specs.declared.source.Stand.{Stand}

-- where the rows of a block stand that begins at column x of row y
abbrev pub stand_at : Stand → (x y : ℕ) → Stand
stand_at s x y = record { off = row_first s y + x; forth = s.forth; back = s.back }

-- what the code carries as the best so far: none until one is found
unfoldable pub best_of : Option declared.Best → Best
best_of None = none
best_of (Some b) = best b.sum (record { dx = b.dx; dy = b.dy })
