-- A loop that sums: after j turns its local is  sum_z j g,  which is within j * M of 0.
-- Assumes nothing.
use mathlib.Core.Path.{◌≡◌, refl, ap, ◌∙◌}
use Prim.Native.Nat.{ℕ, ◌+◌, ◌*◌, ◌≤◌, ◌<◌}
use native.Mathlib.Nat.{mul-le-mul_right, le_of_suc-le-suc}
use native.Mathlib.Numerals.{add-one}
use native.Mathlib.Omega.{arith}
use lib.IntN.{ℤ, pos, ◌+ℤ◌}
use lib.Signed.{mag}
use Rattle.rows.specs.Numbers.{sum_z}
use Rattle.rows.proofs.Laws.Numbers.Signed.{mag-add}

pub record Summed (g : ℕ → ℤ) (M j : ℕ) (s : ℤ) : Type 0 where
  pub is : s ≡ sum_z j g
  pub le : mag (sum_z j g) ≤ j * M

pub summed_none : (g : ℕ → ℤ) (M : ℕ) → Summed g M 0 (pos 0)
unfolding sum_z
summed_none g M = record { is = refl; le = omega arith }

-- the local is the sum
pub summed_is : {g : ℕ → ℤ} {M j : ℕ} {s : ℤ} → Summed g M j s → s ≡ sum_z j g
summed_is p = p.is

pub summed_mag : {g : ℕ → ℤ} {M j : ℕ} {s : ℤ} → Summed g M j s → mag s ≤ j * M
summed_mag p = rw p.is p.le

pub summed_more : {g : ℕ → ℤ} {M j : ℕ} {s r : ℤ} → Summed g M j s → (r ≡ s +ℤ g j) × (mag (g j) < M) → Summed g M (j + 1) r
unfolding sum_z
summed_more {g} {M} {j} p e =
    rw add-one
    (record { is = e.0 ∙ ap (λ (x : ℤ). x +ℤ g j) p.is; le = omega (arith, p.le, mag-add (sum_z j g) (g j)) })

-- the places of eight taps
pub steps-le : (j step : ℕ) → j < 8 → j * step ≤ 7 * step
steps-le j step h = mul-le-mul_right step (le_of_suc-le-suc h)
