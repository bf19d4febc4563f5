-- A filter sum depends on its eight numbers alone. Assumes nothing.
use Rattle.rows.proofs.Usual.{List, ◌≡◌, refl, ap, ap₂, ◌<◌, ℕ, suc, zero, arith, pos, ℤ, ◌+ℤ◌, ◌*ℤ◌, at, sum_z}
use Rattle.rows.specs.Numbers.{◌>>◌}
use Rattle.rows.specs.Subpel.{S, tapped}

pub sum_same : (n : ℕ) (g h : ℕ → ℤ) → ((t : ℕ) → t < n → g t ≡ h t) → sum_z n g ≡ sum_z n h
unfolding sum_z
sum_same zero g h e = refl
sum_same (suc n) g h e = ap₂ (λ (a b : ℤ). a +ℤ b) (sum_same n g h (λ t b. e t (omega arith))) (e n (omega arith))

pub tapped_same : (f : List ℤ) (r n : ℕ) (x y : ℕ → ℤ) → ((t : ℕ) → t < 8 → x t ≡ y t) → tapped f r n x ≡ tapped f r n y
unfolding tapped S
tapped_same f r n x y e =
    ap (λ (s : ℤ). s +ℤ pos r >> n) (sum_same 8 (λ t. at f t *ℤ x t) (λ t. at f t *ℤ y t) (λ t b. ap (λ (v : ℤ). at f t *ℤ v) (e t b)))
