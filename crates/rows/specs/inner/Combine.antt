-- Combining, as the code goes. Only inner contracts name this: nobody need believe it. Assumes nothing.
use Rattle.std.specs.Prelude.{ℕ, ◌+◌, ◌<◌, ◌≤◌, get_or, List}

-- the n values from place q on are at most m
abbrev pub AtMost : ℕ → List ℕ → ℕ → ℕ → Type 0
AtMost m l q n = (i : ℕ) → i < n → get_or l (q + i) 0 ≤ m
