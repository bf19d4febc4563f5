-- A depth that passed its test is 8. Assumes nothing.
use Rattle.blocks.proofs.Usual.{true, ◌≡◌, refl, sym, subst, ℕ, arith, eqb-true, ℤ, bits_of, max_of, bias_of, up}
use Rattle.rows.specs.inner.bytes.Pixel.{BitsOk, BiasOk, MaxOk}
use Rattle.blocks.specs.bytes.Depth.{depth_ok}
use Rattle.blocks.specs.inner.Ready.{DepthRange}

pub deep_eight : (depth : ℤ) → depth_ok depth ≡ true → up depth ≡ 8
unfolding depth_ok
deep_eight depth e = eqb-true (up depth) 8 e

at_eight : (P : ℕ → Type 0) (depth : ℤ) → depth_ok depth ≡ true → P 8 → P (up depth)
at_eight P depth e x = subst P (sym (deep_eight depth e)) x

-- the rows get what they rely on
pub depth_bits : (depth : ℤ) → depth_ok depth ≡ true → BitsOk (bits_of (up depth))
depth_bits depth e = at_eight (λ (n : ℕ). BitsOk (bits_of n)) depth e refl

pub depth_bias : (depth : ℤ) → depth_ok depth ≡ true → BiasOk (bias_of (up depth))
depth_bias depth e = at_eight (λ (n : ℕ). BiasOk (bias_of n)) depth e refl

pub depth-max : (depth : ℤ) → depth_ok depth ≡ true → MaxOk (max_of (up depth))
depth-max depth e = at_eight (λ (n : ℕ). MaxOk (max_of n)) depth e refl

-- and the sums and the weights a depth that they can shift by
pub depth_range : (depth : ℤ) → depth_ok depth ≡ true → DepthRange (up depth)
depth_range depth e = at_eight DepthRange depth e (record { least = omega arith; most = omega arith })
