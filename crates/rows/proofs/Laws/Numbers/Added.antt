-- A loop that sums numbers without a sign: after i of n turns its local holds  sum i g,  at most i * M.
-- Assumes nothing.
use Rattle.rows.proofs.Usual.{◌≡◌, refl, ap₂, ◌+◌, ◌*◌, ◌≤◌, ◌<◌, ℕ, arith}
use native.Mathlib.Nat.{le_antisymm}
use native.Mathlib.Numerals.{add-one}
use Rattle.rows.specs.Numbers.{sum}

pub record Added (g : ℕ → ℕ) (M n i s : ℕ) : Type 0 where
  pub le : i ≤ n
  pub is : s ≡ sum i g
  pub most : s ≤ i * M

pub added_none : (g : ℕ → ℕ) (M n : ℕ) → Added g M n 0 0
unfolding sum
added_none g M n = record { le = omega arith; is = refl; most = omega arith }

pub added_more : {g : ℕ → ℕ} {M n i s r : ℕ} → Added g M n i s → i < n → r ≡ g i → r ≤ M → Added g M n (i + 1) (s + r)
unfolding sum
added_more {g} {M} {n} {i} p h e b =
    rw add-one (record { le = h; is = ap₂ (λ (x y : ℕ). x + y) p.is e; most = omega (arith, p.most) })

pub added_all : {g : ℕ → ℕ} {M n i s : ℕ} → Added g M n i s → n ≤ i → (s ≡ sum n g) × (s ≤ n * M)
added_all {g} {M} {n} {i} p h = let e : i ≡ n = le_antisymm p.le h in (rw e at p.is, rw e at p.most)
