-- Bilinear, as the code goes. Only inner contracts name this: nobody need believe it. Assumes nothing.
use Rattle.std.specs.Prelude.{ℕ, ◌+◌, ◌-◌, eqb}
use Rattle.rows.specs.Places.{pick}
use Rattle.blocks.specs.declared.bilinear.PairWay.{PairWay}
use Rattle.blocks.specs.declared.source.Stand.{Stand}

-- the pairs of two rows that stand below one another, at the fraction g: with the last row first in memory the lower place has the lower row, which is the
-- second of the picture's, so the two exchange their weights
abbrev pub column_pairs : Stand → (g n : ℕ) → PairWay
column_pairs s g n = record { step = s.forth + s.back; f = pick (eqb s.back 0) g (16 - g); n = n }
