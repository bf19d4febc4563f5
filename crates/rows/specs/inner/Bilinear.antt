-- Bilinear, as the code goes. Only inner contracts name this: nobody need believe it. Assumes nothing.
use Rattle.std.specs.Prelude.{ℕ, ◌+◌, ℤ}
use Rattle.rows.specs.Bilinear.{bilin}

-- of the numbers x at place p and a step on
abbrev pub bilin_at : (ℕ → ℤ) → (p step : ℕ) → ℕ → ℤ
bilin_at x p step f = bilin (x p) (x (p + step)) f
