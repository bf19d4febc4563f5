-- A depth that passed its test is 10 or 12. Assumes nothing.
use Rattle.blocks.proofs.Usual.{true, Bool, false, inr, ◌≡◌, refl, ℕ, arith, eqb-true, eqb, ℤ, bits_of, max_of, bias_of, up}
use mathlib.Core.Bool.{◌||◌}
use mathlib.Core.Logic.{inl}
use Rattle.rows.specs.inner.Depth.{HighDepth}
use Rattle.rows.specs.inner.words.Pixel.{BitsOk, BiasOk, MaxOk}
use Rattle.rows.proofs.Laws.Numbers.Depth.{high}
use Rattle.blocks.specs.words.Depth.{depth_ok}
use Rattle.blocks.specs.inner.Ready.{DepthRange}

high_of : (n : ℕ) → eqb n 10 || eqb n 12 ≡ true → HighDepth n
high_of n e = go (eqb n 10) refl e where
  go : (t : Bool) → eqb n 10 ≡ t → t || eqb n 12 ≡ true → HighDepth n
  go true q r = inl (eqb-true n 10 q)
  go false q r = inr (eqb-true n 12 r)

pub depth-high : (depth : ℤ) → depth_ok depth ≡ true → HighDepth (up depth)
unfolding depth_ok
depth-high depth e = high_of (up depth) e

-- the rows get what they rely on
pub depth_bits : (depth : ℤ) → depth_ok depth ≡ true → BitsOk (bits_of (up depth))
depth_bits depth e = high (λ (n : ℕ). BitsOk (bits_of n)) (depth-high depth e) (omega arith) (omega arith)

pub depth_bias : (depth : ℤ) → depth_ok depth ≡ true → BiasOk (bias_of (up depth))
depth_bias depth e = high (λ (n : ℕ). BiasOk (bias_of n)) (depth-high depth e) (omega arith) (omega arith)

pub depth-max : (depth : ℤ) → depth_ok depth ≡ true → MaxOk (max_of (up depth))
depth-max depth e = high (λ (n : ℕ). MaxOk (max_of n)) (depth-high depth e) (omega arith) (omega arith)

-- and the sums and the weights a depth that they can shift by
pub depth_range : (depth : ℤ) → depth_ok depth ≡ true → DepthRange (up depth)
depth_range depth e =
    high DepthRange (depth-high depth e) (record { least = omega arith; most = omega arith }) (record { least = omega arith; most = omega arith })
