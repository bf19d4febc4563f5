-- What rows of 16-bit pixels rely on: depths 10 and 12. Only inner contracts name this: nobody need believe it. Assumes nothing.
use Rattle.std.specs.Prelude.{ℕ, ◌^◌, ◌<◌, ◌≤◌}

-- how many pixels there are
abbrev pub pixels : ℕ
pixels = 2 ^ 16

abbrev pub BitsOk : ℕ → Type 0
BitsOk bits = (2 ≤ bits) × (bits ≤ 4)

abbrev pub BiasOk : ℕ → Type 0
BiasOk bias = bias ≤ 8192

-- a largest pixel that sixteen bits hold with their sign
abbrev pub MaxOk : ℕ → Type 0
MaxOk max = max < 2 ^ 15
