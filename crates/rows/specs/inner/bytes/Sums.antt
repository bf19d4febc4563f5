-- What near sums of bytes rely on, which are rounded in sixteen bits. Only inner contracts name this: nobody need believe it. Assumes nothing.
use Rattle.std.specs.Prelude.{ℕ, List, ℤ}
use Rattle.rows.specs.inner.Subpel.{Short}

-- taps f, where sums are rounded by r and n
abbrev pub NearOk : List ℤ → (r n : ℕ) → Type 0
NearOk f r n = Short f r n
