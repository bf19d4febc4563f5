-- 8-tap down the columns of rows that stand before one another: the taps and the pixels are both read the other way round, and the sum is the same.
-- Assumes nothing.
use Rattle.blocks.proofs.Usual.{List, ◌≡◌, ◌∙◌, refl, ap, ap₂, ℕ, ◌-◌, ◌<◌, suc, zero, arith, pos, ℤ, ◌+ℤ◌, ◌*ℤ◌, at, row_of}
use lib.IntN.{+ℤ_assoc, +ℤ_comm}
use Rattle.rows.specs.Numbers.{sum_z, ◌>>◌}
use Rattle.rows.specs.Subpel.{S, tapped}
use Rattle.rows.proofs.Laws.Filters.Taps.{sum_same, tapped_same}
use Rattle.rows.proofs.Laws.Blocks.Places.{get_d_row_of}
use Rattle.blocks.specs.inner.Subpel.{in_memory}

-- ---- a sum from its other end
sum_front : (n : ℕ) (g : ℕ → ℤ) → sum_z (suc n) g ≡ g 0 +ℤ sum_z n (λ t. g (suc t))
unfolding sum_z
sum_front zero g = +ℤ_comm (pos 0) (g 0)
sum_front (suc n) g = ap (λ (v : ℤ). v +ℤ g (suc n)) (sum_front n g) ∙ +ℤ_assoc (g 0) (sum_z n (λ t. g (suc t))) (g (suc n))

sum_turned : (n : ℕ) (g : ℕ → ℤ) → sum_z n (λ t. g (n - 1 - t)) ≡ sum_z n g
unfolding sum_z
sum_turned zero g = refl
sum_turned (suc n) g =
    sum_front n (λ t. g (suc n - 1 - t))
    ∙ ap₂ (λ (a b : ℤ). a +ℤ b) (ap g (omega arith)) (sum_same n _ _ (λ t b. ap g (omega arith)) ∙ sum_turned n g)
    ∙ +ℤ_comm (g n) (sum_z n g)

-- ---- eight taps
turned : (f : List ℤ) (r n : ℕ) (x : ℕ → ℤ) → tapped (row_of 8 (λ t. at f (7 - t))) r n (λ t. x (7 - t)) ≡ tapped f r n x
unfolding tapped S
turned f r n x =
    ap (λ (s : ℤ). s +ℤ pos r >> n)
    (sum_same 8 _ _ (λ t b. ap (λ (v : ℤ). v *ℤ x (7 - t)) (get_d_row_of (pos 0) 8 (λ u. at f (7 - u)) t b)) ∙ sum_turned 8 (λ t. at f t *ℤ x t))

-- x are the numbers as they stand in memory, y as the taps go
pub in_memory_lem : (back : ℕ) (f : List ℤ) (r n : ℕ) (x y : ℕ → ℤ) → (back ≡ 0 → (t : ℕ) → t < 8 → x t ≡ y t)
    → (0 < back → (t : ℕ) → t < 8 → x t ≡ y (7 - t)) → tapped (in_memory back f) r n x ≡ tapped f r n y
unfolding in_memory
in_memory_lem zero f r n x y same other = tapped_same f r n x y (same refl)
in_memory_lem (suc b) f r n x y same other = tapped_same (row_of 8 (λ t. at f (7 - t))) r n x (λ t. y (7 - t)) (other (omega arith)) ∙ turned f r n y

-- what the code makes of taps
pub memory_same : {back : ℕ} (f : List ℤ) → back ≡ 0 → f ≡ in_memory back f
unfolding in_memory
memory_same f e = rw e refl

pub memory_turned : (back : ℕ) (f : List ℤ) → 0 < back → row_of 8 (λ t. at f (7 - t)) ≡ in_memory back f
unfolding in_memory
memory_turned zero f b = absurd (omega arith)
memory_turned (suc n) f b = refl
