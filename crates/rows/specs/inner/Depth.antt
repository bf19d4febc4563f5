-- Depths, as the code goes. Only inner contracts name this: nobody need believe it. Assumes nothing.
use Rattle.std.specs.Prelude.{ℕ, ◌≡◌, ◌⊎◌}

-- the depths of 16-bit pixels
abbrev pub HighDepth : ℕ → Type 0
HighDepth depth = (depth ≡ 10) ⊎ (depth ≡ 12)
