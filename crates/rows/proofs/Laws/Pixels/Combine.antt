-- The combining laws of demand 3, on pixels: for any largest pixel M, any B and any P, so at each depth. Assumes nothing.
use Rattle.rows.proofs.Usual.{◌≡◌, ◌∙◌, ap, sym, ap₂, ◌+◌, ◌*◌, ◌^◌, ℕ, ◌/◌, arith, pos, ℤ, ◌+ℤ◌, ◌*ℤ◌, ◌-ℤ◌, negsuc, clip, up, dn, eq_of, one-part}
use Rattle.rows.proofs.Usual.{sub_parts, add_parts}
use native.Mathlib.Nat.{mul_assoc, mul-div-mul_left, div-div-eq-div-mul}
use lib.IntN.{+ℤ_comm}
use lib.Pow.{pow-add}
use Rattle.rows.specs.Numbers.{◌>>◌}
use Rattle.rows.specs.Combine.{avg, weighted, masked}
use Rattle.rows.proofs.Laws.Numbers.Signed.{mul_parts, times_up, times_dn}

-- "swapping two inputs": avg is the same
pub swap_avg : (M B P : ℕ) (a b : ℤ) → avg M B P a b ≡ avg M B P b a
unfolding avg
swap_avg M B P a b = ap (λ (s : ℤ). clip M (s +ℤ pos (2 ^ B + 2 * P) >> B + 1)) (+ℤ_comm a b)

-- 16 minus the partner of a weight is the weight
partner : (k : ℤ) → pos 16 -ℤ (pos 16 -ℤ k) ≡ k
partner k = eq_of (pos 16 -ℤ (pos 16 -ℤ k)) k (omega (arith, sub_parts (pos 16) k, sub_parts (pos 16) (pos 16 -ℤ k)))

-- "swapping two inputs equals changing weight k to 16 minus k"
pub swap_weight : (M B P : ℕ) (k a b : ℤ) → weighted M B P k a b ≡ weighted M B P (pos 16 -ℤ k) b a
unfolding weighted
swap_weight M B P k a b =
    ap (λ (s : ℤ). clip M (s +ℤ pos (8 * 2 ^ B + 16 * P) >> B + 4))
    (+ℤ_comm (k *ℤ a) ((pos 16 -ℤ k) *ℤ b) ∙ ap (λ (t : ℤ). (pos 16 -ℤ k) *ℤ b +ℤ t *ℤ a) (sym (partner k)))

-- four times a number, shifted by two more
shr_four : (v : ℤ) (n : ℕ) → pos 4 *ℤ v >> n + 2 ≡ v >> n
shr_four (pos v) n = ap pos (ap (λ (d : ℕ). 4 * v / d) (pow-add 2 n 2 ∙ omega arith) ∙ mul-div-mul_left {m = 4} v (2 ^ n) (omega arith))
shr_four (negsuc v) n =
    let e : pos 4 *ℤ negsuc v ≡ negsuc (4 * v + 3) = eq_of (pos 4 *ℤ negsuc v) (negsuc (4 * v + 3)) (omega (arith, times_up 4 (negsuc v), times_dn 4 (negsuc v))) in
    ap (λ (z : ℤ). z >> n + 2) e
    ∙ ap negsuc (ap (λ (d : ℕ). (4 * v + 3) / d) (pow-add 2 n 2 ∙ omega arith) ∙ sym (div-div-eq-div-mul (4 * v + 3) 4 (2 ^ n)) ∙ ap (λ (q : ℕ). q / 2 ^ n) (omega arith))

-- four times as much, less four times as much
four_less : (n k : ℕ) → (up (pos (4 * n) -ℤ pos (4 * k)) ≡ 4 * up (pos n -ℤ pos k)) × (dn (pos (4 * n) -ℤ pos (4 * k)) ≡ 4 * dn (pos n -ℤ pos k))
four_less n k =
    let x = pos (4 * n) -ℤ pos (4 * k) in let y = pos n -ℤ pos k in
    let u = sub_parts (pos (4 * n)) (pos (4 * k)) in let v = sub_parts (pos n) (pos k) in
    (omega (arith, one-part x, one-part y), omega (arith, one-part x, one-part y))

-- a factor that is four times as much
four_times : (m n p : ℕ) → m ≡ 4 * n → m * p ≡ 4 * (n * p)
four_times m n p e = ap (λ (x : ℕ). x * p) e ∙ mul_assoc 4 n p

-- the sums before the shift: mask's is four times the weight's
four_sums : (k r : ℕ) (a b : ℤ) → pos (4 * k) *ℤ a +ℤ (pos 64 -ℤ pos (4 * k)) *ℤ b +ℤ pos (4 * r) ≡ pos 4 *ℤ (pos k *ℤ a +ℤ (pos 16 -ℤ pos k) *ℤ b +ℤ pos r)
four_sums k r a b =
    let x = pos 64 -ℤ pos (4 * k) in let y = pos 16 -ℤ pos k in
    let ka = pos k *ℤ a in let yb = y *ℤ b in let s = ka +ℤ yb +ℤ pos r in
    let ka4 = pos (4 * k) *ℤ a in let xb = x *ℤ b in
    let l = four_less 16 k in
    eq_of (ka4 +ℤ xb +ℤ pos (4 * r)) (pos 4 *ℤ s)
    (omega (
      arith,
      times_up (4 * k) a,
      times_dn (4 * k) a,
      times_up k a,
      times_dn k a,
      mul_assoc 4 k (up a),
      mul_assoc 4 k (dn a),
      mul_parts x b,
      mul_parts y b,
      four_times (up x) (up y) (up b) l.0,
      four_times (up x) (up y) (dn b) l.0,
      four_times (dn x) (dn y) (up b) l.1,
      four_times (dn x) (dn y) (dn b) l.1,
      add_parts ka4 xb,
      add_parts (ka4 +ℤ xb) (pos (4 * r)),
      add_parts ka yb,
      add_parts (ka +ℤ yb) (pos r),
      times_up 4 s,
      times_dn 4 s,
    ))

-- "for k from 0 to 32, a mask of 4k everywhere equals weight k"
pub mask_weight : (M B P k : ℕ) (a b : ℤ) → masked M B P (4 * k) a b ≡ weighted M B P (pos k) a b
unfolding weighted masked
mask_weight M B P k a b =
    ap (clip M)
    (ap₂ (λ (r n : ℕ). pos (4 * k) *ℤ a +ℤ (pos 64 -ℤ pos (4 * k)) *ℤ b +ℤ pos r >> n) (omega arith) (omega arith)
    ∙ ap (λ (v : ℤ). v >> B + 4 + 2) (four_sums k (8 * 2 ^ B + 16 * P) a b)
    ∙ shr_four (pos k *ℤ a +ℤ (pos 16 -ℤ pos k) *ℤ b +ℤ pos (8 * 2 ^ B + 16 * P)) (B + 4))
