-- Scaled blocks at a step of one pixel: positions go pixel by pixel, and where pixels are within the depth, bilinear is as without a scale. Assumes nothing.
use Rattle.blocks.proofs.Usual.{◌≡◌, ◌∙◌, refl, sym, ap, ap₂, subst, ℕ, ◌≤◌, ◌*◌, ◌+◌, ◌-◌, ◌<◌, ◌^◌, suc, zero, ◌/◌, min, mul-le-mul_right, add-mul}
use Rattle.blocks.proofs.Usual.{arith, pos, ℤ, ◌+ℤ◌, w16, clip, minus16, half, low16, by-lt, fit}
use native.Mathlib.Nat.{mul_assoc, mul-le-mul_left}
use Rattle.rows.specs.Numbers.{◌>>◌}
use Rattle.rows.specs.Copy.{prep}
use Rattle.rows.specs.Bilinear.{bilin, R, along, down, bilin_mid, put_bilin, prep_bilin}
use Rattle.rows.specs.Scaled.{position, pixel_of, sixteenth, put_bilin_scaled, prep_bilin_scaled}
use Rattle.rows.proofs.Laws.Numbers.Low.{low16_keeps}
use Rattle.rows.proofs.Laws.Filters.Bilinear.{weighed}

-- column or row x is in pixel x, at the sixteenth that the block starts at
pub step_one : (f x : ℕ) → f ≤ 15 → (pixel_of (position (64 * f) 1024 x) ≡ x) × (sixteenth (position (64 * f) 1024 x) ≡ f)
step_one f x h = omega arith

-- ---- numbers

-- what holds of 2, 3 and 4 holds of B
pub by_bits : (T : ℕ → Type 0) → T 2 → T 3 → T 4 → (B : ℕ) → 2 ≤ B → B ≤ 4 → T B
by_bits T a b c B l h = by-lt B 3 (λ e. subst T (omega arith) a) λ e. by-lt B 4 (λ d. subst T (omega arith) b) λ d. subst T (omega arith) c

abbrev mix : ℕ → ℕ → ℕ → ℕ
mix f a b = (16 - f) * a + f * b

-- R(n), from 0 up
abbrev rounded : ℕ → ℕ → ℕ
rounded n s = (s + half n) / 2 ^ n

bilin_mix : (f a b : ℕ) → f ≤ 15 → bilin (pos a) (pos b) f ≡ pos (mix f a b)
bilin_mix f a b h = sym (weighed f (pos a) (pos b) (omega arith))

mix_le : {f a b M : ℕ} → f ≤ 15 → a ≤ M → b ≤ M → mix f a b ≤ 16 * M
mix_le {f} {a} {b} {M} h p q =
    let e : (16 - f) * M + f * M ≡ 16 * M = sym (add-mul (16 - f) f M) ∙ ap (λ (k : ℕ). k * M) (omega arith) in
    omega (arith, mul-le-mul_left (16 - f) p, mul-le-mul_left f q)

mix_times : (f a b n : ℕ) → mix f (a * n) (b * n) ≡ mix f a b * n
mix_times f a b n = omega (arith, mul_assoc (16 - f) a n, mul_assoc f b n, add-mul ((16 - f) * a) (f * b) n)

module _ {B : ℕ} (l : 2 ≤ B) (h : B ≤ 4) where
  fits : (M s : ℕ) → M * 2 ^ B < 2 ^ 15 → s ≤ 16 * M → rounded (4 - B) s < 2 ^ 15
  fits M s m b =
      by_bits (λ B. M * 2 ^ B < 2 ^ 15 → rounded (4 - B) s < 2 ^ 15) (λ m. omega arith) (λ m. omega arith) (λ m. omega arith) B l h m

  times : (a b : ℕ) → rounded (4 - B) (mix 0 a b) ≡ a * 2 ^ B
  times a b = by_bits (λ B. rounded (4 - B) (mix 0 a b) ≡ a * 2 ^ B) (omega arith) (omega arith) (omega arith) B l h

  put_times : (s : ℕ) → rounded (4 + B) (s * 2 ^ B) ≡ rounded 4 s
  put_times s = by_bits (λ B. rounded (4 + B) (s * 2 ^ B) ≡ rounded 4 s) (omega arith) (omega arith) (omega arith) B l h

  put_sixteen : (m : ℕ) → rounded (4 + B) (16 * m) ≡ (m + 2 ^ (B - 1)) / 2 ^ B
  put_sixteen m = by_bits (λ B. rounded (4 + B) (16 * m) ≡ (m + 2 ^ (B - 1)) / 2 ^ B) (omega arith) (omega arith) (omega arith) B l h

  prep_times : (s : ℕ) → rounded 4 (s * 2 ^ B) ≡ rounded (4 - B) s
  prep_times s = by_bits (λ B. rounded 4 (s * 2 ^ B) ≡ rounded (4 - B) s) (omega arith) (omega arith) (omega arith) B l h

-- ---- pixels q within M, whose intermediates sixteen bits hold
module _ {M B : ℕ} (l : 2 ≤ B) (h : B ≤ 4) (m : M * 2 ^ B < 2 ^ 15) (q : ℕ → ℕ → ℕ) (small : (a b : ℕ) → a ≤ 1 → b ≤ 1 → q a b ≤ M) where
  mid-is : (f b : ℕ) → f ≤ 15 → b ≤ 1 → bilin_mid B f q b ≡ pos (rounded (4 - B) (mix f (q 0 b) (q 1 b)))
  unfolding bilin_mid along R
  mid-is f b k p =
      ap (λ (z : ℤ). low16 (R (4 - B) z)) (bilin_mix f (q 0 b) (q 1 b) k)
      ∙ low16_keeps _ (fit w16 (fits l h M _ m (mix_le k (small 0 b (omega arith) p) (small 1 b (omega arith) p))))

  both_is : (f g : ℕ) → f ≤ 15 → g ≤ 15 → bilin (bilin_mid B f q 0) (bilin_mid B f q 1) g
      ≡ pos (mix g (rounded (4 - B) (mix f (q 0 0) (q 1 0))) (rounded (4 - B) (mix f (q 0 1) (q 1 1))))
  both_is f g k p = ap₂ (λ (s t : ℤ). bilin s t g) (mid-is f 0 k (omega arith)) (mid-is f 1 k (omega arith)) ∙ bilin_mix g _ _ p

  -- no fraction along, and none down
  not-along : (g : ℕ) → g ≤ 15 → bilin (bilin_mid B 0 q 0) (bilin_mid B 0 q 1) g ≡ pos (mix g (q 0 0) (q 0 1) * 2 ^ B)
  not-along g p =
      both_is 0 g (omega arith) p
      ∙ ap pos (ap₂ (λ (s t : ℕ). mix g s t) (times l h (q 0 0) (q 1 0)) (times l h (q 0 1) (q 1 1)) ∙ mix_times g (q 0 0) (q 0 1) (2 ^ B))

  not-down : (f : ℕ) → f ≤ 15 → bilin (bilin_mid B f q 0) (bilin_mid B f q 1) 0 ≡ pos (16 * rounded (4 - B) (mix f (q 0 0) (q 1 0)))
  not-down f k = both_is f 0 k (omega arith) ∙ ap pos (omega arith)

  pub put_one : (f g : ℕ) → f ≤ 15 → g ≤ 15 → put_bilin_scaled M B f g q ≡ put_bilin M B f g q
  unfolding put_bilin_scaled put_bilin R along down
  put_one zero zero a b =
      ap (λ (z : ℤ). clip M (R (4 + B) z)) (not-along 0 b)
      ∙ ap (λ (n : ℕ). min n M) (put_times l h (mix 0 (q 0 0) (q 0 1)))
      ∙ omega (arith, small 0 0 (omega arith) (omega arith))
  put_one (suc f) zero a b =
      ap (λ (z : ℤ). clip M (R (4 + B) z)) (not-down (suc f) a)
      ∙ ap (λ (n : ℕ). min n M) (put_sixteen l h _)
      ∙ sym (ap (λ (z : ℤ). clip M (R (4 - B) z +ℤ pos (2 ^ (B - 1)) >> B)) (bilin_mix (suc f) (q 0 0) (q 1 0) a))
  put_one zero (suc g) a b =
      ap (λ (z : ℤ). clip M (R (4 + B) z)) (not-along (suc g) b)
      ∙ ap (λ (n : ℕ). min n M) (put_times l h (mix (suc g) (q 0 0) (q 0 1)))
      ∙ sym (ap (λ (z : ℤ). clip M (R 4 z)) (bilin_mix (suc g) (q 0 0) (q 0 1) b))
  put_one (suc f) (suc g) a b = refl

  pub prep-one : (P f g : ℕ) → f ≤ 15 → g ≤ 15 → prep_bilin_scaled B P f g q ≡ prep_bilin B P f g q
  unfolding prep_bilin_scaled prep_bilin R along down prep
  prep-one P zero zero a b =
      ap (λ (z : ℤ). minus16 (low16 (R 4 z)) (pos P)) (not-along 0 b)
      ∙ ap (λ (n : ℕ). minus16 (low16 (pos n)) (pos P)) (prep_times l h (mix 0 (q 0 0) (q 0 1)) ∙ times l h (q 0 0) (q 0 1))
      ∙ ap (λ (z : ℤ). minus16 z (pos P))
      (low16_keeps _ (fit w16 (omega (arith, mul-le-mul_right (2 ^ B) (small 0 0 (omega arith) (omega arith))))))
  prep-one P (suc f) zero a b =
      ap (λ (z : ℤ). minus16 (low16 (R 4 z)) (pos P)) (not-down (suc f) a)
      ∙ ap (λ (n : ℕ). minus16 (low16 (pos n)) (pos P)) (omega arith)
      ∙ sym (ap (λ (z : ℤ). minus16 (low16 (R (4 - B) z)) (pos P)) (bilin_mix (suc f) (q 0 0) (q 1 0) a))
  prep-one P zero (suc g) a b =
      ap (λ (z : ℤ). minus16 (low16 (R 4 z)) (pos P)) (not-along (suc g) b)
      ∙ ap (λ (n : ℕ). minus16 (low16 (pos n)) (pos P)) (prep_times l h (mix (suc g) (q 0 0) (q 0 1)))
      ∙ sym (ap (λ (z : ℤ). minus16 (low16 (R (4 - B) z)) (pos P)) (bilin_mix (suc g) (q 0 0) (q 0 1) b))
  prep-one P (suc f) (suc g) a b = refl
