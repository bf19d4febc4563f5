-- Scaled blocks at a step of one pixel: where pixels are within the depth, 8-tap is as without a scale. Assumes nothing.
use Rattle.blocks.proofs.Usual.{List, [], ◌∷◌, ◌≡◌, ◌∙◌, refl, sym, ap, ap₂, ℕ, ◌≤◌, ◌*◌, ◌+◌, ◌-◌, ◌<◌, ◌^◌, suc, zero, ◌/◌, min, mul-le-mul_right}
use Rattle.blocks.proofs.Usual.{mul_comm, arith, pos, ℤ, negsuc, nat_abs, ◌+ℤ◌, ◌*ℤ◌, mag, shr_z, w16, up, at, clip, minus16, half, dn, low16, fit}
use Rattle.blocks.proofs.Usual.{add_parts, eq_of}
use native.Mathlib.Nat.{le_trans, mul-div_cancel, div-div-eq-div-mul}
use lib.IntN.{+ℤ_assoc, +ℤ_comm}
use lib.Pow.{pow-add, pow_pos}
use Rattle.rows.specs.Numbers.{sum, sum_z, ◌>>◌}
use Rattle.rows.specs.Copy.{prep}
use Rattle.rows.specs.Subpel.{Axis, whole, by, S, tapped, mid, put8, prep8}
use Rattle.rows.specs.inner.Subpel.{Near}
use Rattle.rows.specs.Scaled.{scaled_mid, put_down, prep_down, put_scaled, prep_scaled}
use Rattle.rows.proofs.Laws.Numbers.Low.{low16_keeps}
use Rattle.rows.proofs.Laws.Filters.Near.{shr-apart}
use Rattle.rows.proofs.Laws.Numbers.Signed.{mul-up, mul-dn, mag-abs, mag_shr, abs-add, abs-mul-le}
use Rattle.rows.proofs.Laws.Filters.Taps.{tapped_same}
use Rattle.blocks.proofs.Laws.StepOfOne.Positions.{by_bits}

-- ---- shifts that round down

shr-shr : (z : ℤ) (a b : ℕ) → shr_z (shr_z z a) b ≡ shr_z z (a * b)
shr-shr (pos n) a b = ap pos (div-div-eq-div-mul n a b)
shr-shr (negsuc n) a b = ap negsuc (div-div-eq-div-mul n a b)

-- what is added after a shift
shr-add : (z : ℤ) (k m : ℕ) → 0 < m → shr_z z m +ℤ pos k ≡ shr_z (z +ℤ pos (k * m)) m
shr-add z k m b =
    +ℤ_comm (shr_z z m) (pos k)
    ∙ ap (λ (n : ℕ). pos n +ℤ shr_z z m) (omega arith)
    ∙ sym (shr-apart (pos 1) z k m b)
    ∙ ap (λ (n : ℕ). shr_z (pos n +ℤ z) m) (omega arith)
    ∙ ap (λ (v : ℤ). shr_z v m) (+ℤ_comm (pos (k * m)) z)

times_none : (z : ℤ) → z *ℤ pos 1 +ℤ pos 0 ≡ z
times_none z = eq_of _ _ (omega (arith, add_parts (z *ℤ pos 1) (pos 0), mul-up z 1, mul-dn z 1))

add_none : (z : ℤ) → z ≡ z +ℤ pos 0
add_none z = eq_of _ _ (omega (arith, add_parts z (pos 0)))

zero_div : (k : ℕ) → 0 < k → 0 / k ≡ 0
zero_div k b = let e : 0 ≡ 0 * k = omega arith in ap (λ (n : ℕ). n / k) e ∙ mul-div_cancel 0 b

-- what is multiplied before one
shr_times : (z : ℤ) (k m : ℕ) → 0 < k → shr_z (z *ℤ pos k) (k * m) ≡ shr_z z m
shr_times z k m b =
    sym (shr-shr (z *ℤ pos k) k m)
    ∙ ap (λ (v : ℤ). shr_z v m)
    (ap (λ (v : ℤ). shr_z v k) (add_none (z *ℤ pos k) ∙ ap (λ (n : ℕ). z *ℤ pos n +ℤ pos 0) (omega arith))
    ∙ shr-apart z (pos 0) 1 k b
    ∙ ap (λ (n : ℕ). z *ℤ pos 1 +ℤ pos n) (zero_div k b)
    ∙ times_none z)

-- ---- sums

times_add : (a b : ℤ) (k : ℕ) → a *ℤ pos k +ℤ b *ℤ pos k ≡ (a +ℤ b) *ℤ pos k
times_add a b k =
    let s = a +ℤ b in
    let e : up s + dn a + dn b ≡ dn s + up a + up b = (add_parts a b).0 in
    eq_of (a *ℤ pos k +ℤ b *ℤ pos k) (s *ℤ pos k)
    (omega (
      arith,
      add_parts (a *ℤ pos k) (b *ℤ pos k),
      mul-up a k,
      mul-dn a k,
      mul-up b k,
      mul-dn b k,
      mul-up s k,
      mul-dn s k,
      ap (λ (x : ℕ). x * k) e,
    ))

times_pos : (a : ℤ) (n k : ℕ) → a *ℤ pos (n * k) ≡ a *ℤ pos n *ℤ pos k
times_pos a n k =
    eq_of (a *ℤ pos (n * k)) (a *ℤ pos n *ℤ pos k)
    (omega (
      arith,
      mul-up a (n * k),
      mul-dn a (n * k),
      mul-up a n,
      mul-dn a n,
      mul-up (a *ℤ pos n) k,
      mul-dn (a *ℤ pos n) k,
      ap (λ (x : ℕ). x * k) (mul-up a n),
      ap (λ (x : ℕ). x * k) (mul-dn a n),
    ))

sum_times : (n k : ℕ) (g : ℕ → ℤ) (x : ℕ → ℕ) → sum_z n (λ t. g t *ℤ pos (x t * k)) ≡ sum_z n (λ t. g t *ℤ pos (x t)) *ℤ pos k
unfolding sum_z
sum_times zero k g x = ap pos (omega arith)
sum_times (suc n) k g x = ap₂ (λ (a b : ℤ). a +ℤ b) (sum_times n k g x) (times_pos (g n) (x n) k)
    ∙ times_add (sum_z n (λ t. g t *ℤ pos (x t))) (g n *ℤ pos (x n)) k

-- a filter's sum of numbers times k, rounded and shifted by k's bits more
tapped_times : (f : List ℤ) (x : ℕ → ℕ) (k r n m : ℕ) → 0 < k → 2 ^ m ≡ k * 2 ^ n
    → tapped f (r * k) m (λ t. pos (x t * k)) ≡ tapped f r n (λ t. pos (x t))
unfolding tapped S
tapped_times f x k r n m b e =
    let s = sum_z 8 (λ t. at f t *ℤ pos (x t)) in
    ap₂ (λ (v : ℤ) (d : ℕ). shr_z (v +ℤ pos (r * k)) d) (sum_times 8 k (at f) x) e
    ∙ ap (λ (v : ℤ). shr_z v (k * 2 ^ n)) (times_add s (pos r) k)
    ∙ shr_times (s +ℤ pos r) k (2 ^ n) b

-- how far the sum goes, of numbers within M
sum_within : (n M : ℕ) (g : ℕ → ℤ) (x : ℕ → ℕ) → ((t : ℕ) → t < n → x t ≤ M)
    → nat_abs (sum_z n (λ t. g t *ℤ pos (x t))) ≤ sum n (λ t. nat_abs (g t)) * M
unfolding sum_z sum
sum_within zero M g x h = omega arith
sum_within (suc n) M g x h =
    omega (
      arith,
      sum_within n M g x (λ t b. h t (omega arith)),
      abs-add (sum_z n (λ t. g t *ℤ pos (x t))) (g n *ℤ pos (x n)),
      abs-mul-le (g n) (pos (x n)) (nat_abs (g n)) M (omega arith) (h n (omega arith)),
    )

taps_within : (M : ℕ) (f : List ℤ) (x : ℕ → ℕ) → Near f → ((t : ℕ) → t < 8 → x t ≤ M) → nat_abs (S f (λ t. pos (x t))) ≤ 128 * M
unfolding S
taps_within M f x n h = le_trans (sum_within 8 M (at f) x h) (mul-le-mul_right M n)

-- ---- the numbers of B bits

module _ {B : ℕ} (l : 2 ≤ B) (h : B ≤ 4) where
  -- an intermediate of a sum as far as 128 M
  mid-fits : (M s : ℕ) → M * 2 ^ B < 2 ^ 14 → s ≤ 128 * M + half (6 - B) → s / 2 ^ (6 - B) < 2 ^ 15
  mid-fits M s m b =
      by_bits (λ B. M * 2 ^ B < 2 ^ 14 → s ≤ 128 * M + half (6 - B) → s / 2 ^ (6 - B) < 2 ^ 15)
      (λ m b. omega arith) (λ m b. omega arith) (λ m b. omega arith) B l h m b

  put-half : half (6 + B) ≡ half 6 * 2 ^ B
  put-half = by_bits (λ B. half (6 + B) ≡ half 6 * 2 ^ B) refl refl refl B l h

  prep-half : half 6 ≡ half (6 - B) * 2 ^ B
  prep-half = by_bits (λ B. half 6 ≡ half (6 - B) * 2 ^ B) refl refl refl B l h

  two_halves : half B * 2 ^ (6 - B) ≡ half 6
  two_halves = by_bits (λ B. half B * 2 ^ (6 - B) ≡ half 6) refl refl refl B l h

  two_shifts : 2 ^ (6 - B) * 2 ^ B ≡ 2 ^ 6
  two_shifts = by_bits (λ B. 2 ^ (6 - B) * 2 ^ B ≡ 2 ^ 6) refl refl refl B l h

  whole-pixel : (s : ℕ) → (s * 2 ^ B + half B) / 2 ^ B ≡ s
  whole-pixel s = by_bits (λ B. (s * 2 ^ B + half B) / 2 ^ B ≡ s) (omega arith) (omega arith) (omega arith) B l h

  -- two roundings are one
  once : (z : ℤ) → (z >> 6 - B) +ℤ pos (half B) >> B ≡ z +ℤ pos (half 6) >> 6
  once z =
      ap (λ (v : ℤ). v >> B) (shr-add z (half B) (2 ^ (6 - B)) (pow_pos (6 - B)))
      ∙ shr-shr (z +ℤ pos (half B * 2 ^ (6 - B))) (2 ^ (6 - B)) (2 ^ B)
      ∙ ap₂ (λ (n d : ℕ). shr_z (z +ℤ pos n) d) two_halves two_shifts

-- ---- pixels q within M, and for put a filter along that is near, if there is one: sixteen bits hold each intermediate
abbrev pub NearAxis : Axis → Type 0
NearAxis whole = Unit {0}
NearAxis (by f) = Near f

module _ {M B : ℕ} (l : 2 ≤ B) (h : B ≤ 4) (m : M * 2 ^ B < 2 ^ 14) (q : ℕ → ℕ → ℕ) (small : (a b : ℕ) → a < 8 → b < 8 → q a b ≤ M) where
  -- no filter along
  whole-mid : (b : ℕ) → b < 8 → low16 (pos (q 3 b * 2 ^ B)) ≡ pos (q 3 b * 2 ^ B)
  whole-mid b e = low16_keeps _ (fit w16 (omega (arith, mul-le-mul_right (2 ^ B) (small 3 b (omega arith) e))))

  -- one, which is near
  by-mid : (f : List ℤ) (b : ℕ) → Near f → b < 8
      → low16 (tapped f (half (6 - B)) (6 - B) (λ a. pos (q a b))) ≡ tapped f (half (6 - B)) (6 - B) (λ a. pos (q a b))
  unfolding tapped
  by-mid f b n e =
      let s = S f (λ a. pos (q a b)) in
      let z = s +ℤ pos (half (6 - B)) in
      low16_keeps (z >> 6 - B)
      (fit w16
      (rw (mag_shr z (2 ^ (6 - B)))
      (mid-fits l h M (mag z) m
      (omega (arith, mag-abs z, abs-add s (pos (half (6 - B))), taps_within M f (λ a. q a b) n (λ a c. small a b c e))))))

  pub put8-one : (across down : Axis) → NearAxis across → put_scaled M B across down q ≡ put8 M B 6 across down q
  unfolding put_scaled put_down scaled_mid put8 mid tapped
  put8-one whole whole n =
      ap (λ (z : ℤ). clip M (z +ℤ pos (half B) >> B)) (whole-mid 3 (omega arith))
      ∙ ap (λ (v : ℕ). min v M) (whole-pixel l h (q 3 3))
      ∙ omega (arith, small 3 3 (omega arith) (omega arith))
  put8-one (by f) whole n =
      let s = S f (λ a. pos (q a 3)) in
      ap (λ (z : ℤ). clip M (z +ℤ pos (half B) >> B)) (by-mid f 3 n (omega arith))
      ∙ ap (clip M)
      (once l h (s +ℤ pos (half (6 - B)))
      ∙ ap (λ (z : ℤ). z >> 6) (+ℤ_assoc s (pos (half (6 - B))) (pos (half 6)) ∙ ap (λ (v : ℕ). s +ℤ pos v) (omega arith)))
  put8-one whole (by g) n =
      ap (clip M)
      (tapped_same g (half (6 + B)) (6 + B) (λ b. low16 (pos (q 3 b * 2 ^ B))) (λ b. pos (q 3 b * 2 ^ B)) whole-mid
      ∙ ap (λ (r : ℕ). tapped g r (6 + B) (λ b. pos (q 3 b * 2 ^ B))) (put-half l h)
      ∙ tapped_times g (λ b. q 3 b) (2 ^ B) (half 6) 6 (6 + B) (pow_pos B) (pow-add 2 6 B ∙ mul_comm (2 ^ 6) (2 ^ B)))
  put8-one (by f) (by g) n = refl

  pub prep8-one : (P : ℕ) (across down : Axis) → prep_scaled B P across down q ≡ prep8 B P 6 across down q
  unfolding prep_scaled prep_down scaled_mid prep8 mid tapped prep
  prep8-one P whole whole = ap (λ (z : ℤ). minus16 z (pos P)) (whole-mid 3 (omega arith))
  prep8-one P (by f) whole = refl
  prep8-one P whole (by g) =
      ap (λ (z : ℤ). minus16 (low16 z) (pos P))
      (tapped_same g (half 6) 6 (λ b. low16 (pos (q 3 b * 2 ^ B))) (λ b. pos (q 3 b * 2 ^ B)) whole-mid
      ∙ ap (λ (r : ℕ). tapped g r 6 (λ b. pos (q 3 b * 2 ^ B))) (prep-half l h)
      ∙ tapped_times g (λ b. q 3 b) (2 ^ B) (half (6 - B)) (6 - B) 6 (pow_pos B) (sym (two_shifts l h) ∙ mul_comm (2 ^ (6 - B)) (2 ^ B)))
  prep8-one P (by f) (by g) = refl

-- a filter that is near: its sizes sum to 120
near_some : Near (negsuc 1 ∷ pos 6 ∷ negsuc 11 ∷ pos 40 ∷ pos 40 ∷ negsuc 11 ∷ pos 6 ∷ negsuc 1 ∷ [])
unfolding sum
near_some = omega arith

-- above the depth it isn't so, without a filter either: at depth 10 the base call copies a pixel of 65535, and the scaled one gives 0
above_depth : (put_scaled 1023 4 whole whole (λ a b. 65535) ≡ 0) × (put8 1023 4 6 whole whole (λ a b. 65535) ≡ 65535)
unfolding put_scaled put_down scaled_mid put8 low16
above_depth = (refl, refl)
