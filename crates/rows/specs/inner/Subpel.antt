-- 8-tap, as the code goes. Only inner contracts name this: nobody need believe it. Assumes nothing.
use Rattle.std.specs.Prelude.{ℕ, ◌^◌, ◌≤◌, ◌<◌, ℤ, pos, nat_abs, Bool, true, false, List}
use Rattle.std.specs.Int.Signed.{shr_z}
use Rattle.rows.specs.Numbers.{at, mod_z, sum}

-- taps whose sizes sum to 128 at most: by them the sum of eight bytes is of sixteen bits
abbrev pub Near : List ℤ → Type 0
Near f = sum 8 (λ t. nat_abs (at f t)) ≤ 128

-- the high byte of a number of sixteen bits, or the low one
abbrev pub byte_of : Bool → ℤ → ℤ
byte_of true x = shr_z x 256
byte_of false x = pos (mod_z x 256)

-- taps that are near, and rounded in sixteen bits too
abbrev pub Short : List ℤ → (r n : ℕ) → Type 0
Short f r n = Near f × (r ≤ 127) × (n ≤ 8)

-- what any sum can be rounded by
abbrev pub Rounds : (r n : ℕ) → Type 0
Rounds r n = (r < 2 ^ 20) × (n < 32)
