-- A reference of another size, as the code goes. Only inner contracts name this: nobody need believe it. Assumes nothing.
use Rattle.std.specs.Prelude.{ℕ, ◌+◌, ◌-◌, ◌*◌, ◌≤◌, ◌<◌, min, List, ◌≡◌, ℤ, get_or}
use Rattle.rows.specs.Numbers.{px, low16}
use Rattle.rows.specs.Bilinear.{R}
use Rattle.rows.specs.inner.Bilinear.{bilin_at}
use Rattle.rows.specs.Scaled.{position, pixel_of, sixteenth}

-- the eight pixels at -3 to +4 from position p
abbrev pub eight_at : (ℕ → ℕ) → (o p : ℕ) → ℕ → ℕ
eight_at src o p a = src (o + pixel_of p + a - 3)

-- the places fetched for it: the pixel's own, and those of all taps where the top four bits of its fraction aren't 0
abbrev pub Fetched : (l o p : ℕ) → Type 0
Fetched l o p = (3 * min (sixteenth p) 1 ≤ o + pixel_of p) × (o + pixel_of p + 4 * min (sixteenth p) 1 < l)

-- a start and a step within their ranges
abbrev pub Steps : (start step : ℕ) → Type 0
Steps start step = (start ≤ 1023) × (step ≤ 4096)

-- two tables that say of each of w columns which pixel it is in, counted from the row's first, and at which sixteenth
pub record Tabled (pixels fractions : List ℕ) (w start step : ℕ) : Type 0 where
  pub pixel : (i : ℕ) → i < w → get_or pixels i 0 ≡ pixel_of (position start step i)
  pub fraction : (i : ℕ) → i < w → get_or fractions i 0 ≡ sixteenth (position start step i)

-- what a row of w columns by two tables relies on: of each column the pixel and the next are within l places, and the fraction is one of 0 to 15
pub record PairsFetched (l o : ℕ) (pixels fractions : List ℕ) (w : ℕ) : Type 0 where
  pub held : (i : ℕ) → i < w → o + get_or pixels i 0 + 1 < l
  pub small : (i : ℕ) → i < w → get_or fractions i 0 ≤ 15

-- column i of such a row, between its pixel and the next, kept by a shift of n
abbrev pub pair_mid : (src pixels fractions : List ℕ) (n i : ℕ) → ℤ
pair_mid src pixels fractions n i = low16 (R n (bilin_at (px src) (get_or pixels i 0) 1 (get_or fractions i 0)))
