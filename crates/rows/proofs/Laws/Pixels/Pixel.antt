-- What a blended pixel is at most, and how the code's sums are the definitions'. Assumes nothing.
use Rattle.rows.proofs.Usual.{◌≡◌, ap₂, ◌-◌, ◌+◌, ◌*◌, ◌≤◌, ◌<◌, ◌^◌, ℕ, arith, pos, ℤ, ◌+ℤ◌, ◌*ℤ◌, mag, w16, to_z, of_z, clip, back, fit, eq_of}
use native.Mathlib.Nat.{mul-le-mul, mul-le-mul_right, mul-add}
use lib.Pow.{pow_mono}
use Rattle.rows.specs.Numbers.{◌>>◌}
use Rattle.rows.specs.Combine.{avg, blend}
use Rattle.rows.proofs.Laws.Numbers.Signed.{times_up, times_dn}

-- ---- the roundings h x 2^B and 2h x P, for the halves of the weights' sums to 32
pub half_le : {h B : ℕ} → h ≤ 32 → B ≤ 4 → h * 2 ^ B ≤ 32 * 2 ^ 4
half_le p q = mul-le-mul p (pow_mono q)

pub bias_le : {h P : ℕ} → h ≤ 32 → P ≤ 8192 → 2 * h * P ≤ 64 * 8192
bias_le {h} p q = let t : 2 * h ≤ 64 = omega arith in mul-le-mul t q

-- ---- avg is a sum with weights 1 and 1
times_one : (v : ℤ) → pos 1 *ℤ v ≡ v
times_one v = eq_of (pos 1 *ℤ v) v (omega (arith, times_up 1 v, times_dn 1 v))

pub avg-is : (M B P : ℕ) (a b : ℤ) → clip M (pos 1 *ℤ a +ℤ pos 1 *ℤ b +ℤ pos (1 * 2 ^ B + 2 * P) >> B + 1) ≡ avg M B P a b
unfolding avg
avg-is M B P a b =
    ap₂ (λ (s : ℤ) (r : ℕ). clip M (s +ℤ pos r >> B + 1)) (ap₂ (λ (x y : ℤ). x +ℤ y) (times_one a) (times_one b)) (omega arith)

-- ---- a rule on two intermediates, read back from their bits
pub read-both : {A : Type 0} (rule : ℤ → ℤ → A) {a b : ℤ} → mag a < 2 ^ 15 → mag b < 2 ^ 15 → rule (to_z w16 (of_z w16 a)) (to_z w16 (of_z w16 b)) ≡ rule a b
read-both rule p q = ap₂ rule (back (fit w16 p)) (back (fit w16 q))

-- ---- blend stays below what its two pixels are below
pub part-le : {d k : ℕ} → d < 65536 → k ≤ 64 → d * k ≤ 65535 * 64
part-le {d} p q = let t : d ≤ 65535 = omega arith in mul-le-mul t q

pub blend-lt : {m d t : ℕ} (n : ℕ) → m ≤ 64 → d < n → t < n → blend m d t < n
unfolding blend
blend-lt {m} {d} {t} n h p q =
    let x : d * (64 - m) ≤ (n - 1) * (64 - m) = mul-le-mul_right (64 - m) (omega arith) in
    let y : t * m ≤ (n - 1) * m = mul-le-mul_right m (omega arith) in
    let e : 64 - m + m ≡ 64 = omega arith in
    omega (arith, rw e at (mul-add (n - 1) (64 - m) m))
