-- What rows of bytes rely on: depth 8. Only inner contracts name this: nobody need believe it. Assumes nothing.
use Rattle.std.specs.Prelude.{ℕ, ◌^◌, ◌≡◌}

-- how many pixels there are
abbrev pub pixels : ℕ
pixels = 2 ^ 8

abbrev pub BitsOk : ℕ → Type 0
BitsOk bits = bits ≡ 4

abbrev pub BiasOk : ℕ → Type 0
BiasOk bias = bias ≡ 0

abbrev pub MaxOk : ℕ → Type 0
MaxOk max = max ≡ 255
