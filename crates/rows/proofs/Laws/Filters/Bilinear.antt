-- What the bilinear rows share: two numbers that are widened to 32 bits, summed as they were; and pixels that are summed by their bytes. Assumes nothing.
use Rattle.rows.proofs.Usual.{List, ◌≡◌, ◌∙◌, ap, sym, subst, ap₂, ◌-◌, ◌+◌, ◌*◌, ◌≤◌, ◌<◌, ◌^◌, ℕ, ◌/◌, min, ◌%◌, arith, pos, ℤ, ◌+ℤ◌, ◌*ℤ◌, ◌-ℤ◌}
use Rattle.rows.proofs.Usual.{nat_abs, negsuc, get_or, shr_z, mag, w32, w16, SFits, to_z, of_z, clip, px, up, dn, mod_z, back, backn, back16, eq_of, sub_parts}
use Rattle.rows.proofs.Usual.{abs_mag, add_parts}
use native.Mathlib.Nat.{add_assoc, mul_assoc, mul-add, add-mul, mul-le-mul_left, add-mul-div_right, div-add-mod'}
use lib.Pow.{pow_pos, pow_mono, shr-shr}
use Rattle.rows.specs.Numbers.{half}
use Rattle.rows.specs.Bilinear.{bilin, R}
use Rattle.rows.specs.inner.Bilinear.{bilin_at}
use Rattle.rows.proofs.Laws.Numbers.Signed.{times_up, times_dn}

-- y is the number z, a pixel's or an intermediate's
pub record Widened (y z : ℤ) : Type 0 where
  pub is : y ≡ z
  pub small : nat_abs y ≤ 65535

pub pixel_widened : (x : ℕ) → x < 65536 → Widened (to_z w32 x) (pos x)
pixel_widened x h = let e = backn w32 x (omega arith) in record { is = e; small = rw e (omega arith) }

pub mid_widened : (z : ℤ) → SFits w16 z → Widened (to_z w32 (of_z w32 (to_z w16 (of_z w16 z)))) z
mid_widened z f = record { is = back16 f; small = rw (back16 f) (omega (arith, abs_mag z)) }

pub between_is :
    {y z a b r : ℤ} (f : ℕ) → Widened y a → Widened z b → SFits w32 r → (r ≡ bilin y z f) × (mag r < 2 ^ 22)
    → (to_z w32 (of_z w32 r) ≡ bilin a b f) × (mag (to_z w32 (of_z w32 r)) < 2 ^ 22)
between_is f p q h e = rw (back h) (rw (p.is, q.is) at e)

-- a weight and its partner make 16
partners : (f x : ℕ) → f ≤ 16 → (16 - f) * x + f * x ≡ 16 * x
partners f x h = sym (add-mul (16 - f) f x) ∙ ap (λ (k : ℕ). k * x) (omega arith)

-- three summands, each taken f times
thrice : (f x y z : ℕ) → f * (x + y + z) ≡ f * x + f * y + f * z
thrice f x y z = mul-add f (x + y) z ∙ ap (λ (k : ℕ). k + f * z) (mul-add f x y)

-- (16 - f)a + fb
pub weighed : (f : ℕ) (a b : ℤ) → f ≤ 16 → pos (16 - f) *ℤ a +ℤ pos f *ℤ b ≡ bilin a b f
unfolding bilin
weighed f a b h =
    let d = b -ℤ a in
    let l = pos (16 - f) *ℤ a in let r = pos f *ℤ b in let s = pos 16 *ℤ a in let t = pos f *ℤ d in
    let e : f * (up d + dn b + up a) ≡ f * (dn d + up b + dn a) = ap (λ (k : ℕ). f * k) (sub_parts b a).0 in
    let e2 : f * up d + f * dn b + f * up a ≡ f * dn d + f * up b + f * dn a =
    sym (thrice f (up d) (dn b) (up a)) ∙ e ∙ thrice f (dn d) (up b) (dn a) in
    eq_of (l +ℤ r) (s +ℤ t)
    (omega (
      arith,
      e2,
      partners f (up a) h,
      partners f (dn a) h,
      times_up (16 - f) a,
      times_dn (16 - f) a,
      times_up f b,
      times_dn f b,
      times_up 16 a,
      times_dn 16 a,
      times_up f d,
      times_dn f d,
      add_parts l r,
      add_parts s t,
    ))

-- rounding by nothing
pub shr-none : (v : ℤ) → shr_z (v +ℤ pos 0) 1 ≡ v
shr-none v = ap (λ (z : ℤ). shr_z z 1) (eq_of (v +ℤ pos 0) v (omega (arith, add_parts v (pos 0)))) ∙ whole v
  where
    whole : (z : ℤ) → shr_z z 1 ≡ z
    whole (pos n) = ap pos (omega arith)
    whole (negsuc n) = ap negsuc (omega arith)

-- ---- a sum by two weights is 256 times that of the high bytes and that of the low ones
taken : (u a : ℕ) → u * a ≡ u * (a / 256) * 256 + u * (a % 256)
taken u a =
    ap (λ (k : ℕ). u * k) (sym (div-add-mod' a 256))
    ∙ mul-add u (a / 256 * 256) (a % 256)
    ∙ ap (λ (k : ℕ). k + u * (a % 256)) (sym (mul_assoc u (a / 256) 256))

by_bytes : (u v a b : ℕ) → u * a + v * b ≡ (u * (a / 256) + v * (b / 256)) * 256 + (u * (a % 256) + v * (b % 256))
by_bytes u v a b = omega (arith, taken u a, taken v b)

-- so is the bilinear sum of pixels, which is from 0 up
sum_of : (a b f : ℕ) {s : ℕ} → f ≤ 16 → pos s ≡ bilin (pos a) (pos b) f → s ≡ (16 - f) * a + f * b
sum_of a b f h e = ap up (e ∙ sym (weighed f (pos a) (pos b) h))

pub sum_joined : (src : List ℕ) (p step f : ℕ) {h l : ℕ} → f ≤ 15
    → pos h ≡ bilin_at (λ k. shr_z (px src k) 256) p step f → pos l ≡ bilin_at (λ k. pos (mod_z (px src k) 256)) p step f
    → bilin_at (px src) p step f ≡ pos (h * 256 + l)
sum_joined src p step f m u v =
    let a = get_or src p 0 in let b = get_or src (p + step) 0 in let n : f ≤ 16 = omega arith in
    sym (weighed f (pos a) (pos b) n)
    ∙ ap pos (by_bytes (16 - f) f a b ∙ sym (ap₂ (λ (x y : ℕ). x * 256 + y) (sum_of (a / 256) (b / 256) f n u) (sum_of (a % 256) (b % 256) f n v)))

-- the sum of bytes, by the weights
pub bytes_le : {a b f : ℕ} → a ≤ 255 → b ≤ 255 → f ≤ 16 → (16 - f) * a + f * b ≤ 4080
bytes_le {a} {b} {f} p q h = omega (arith, partners f 255 h, mul-le-mul_left (16 - f) p, mul-le-mul_left f q)

-- put's two shifts as one
pub put_once : (M s n r k : ℕ) → n + k ≡ 4 → clip M (shr_z (R n (pos s) +ℤ pos r) (2 ^ k)) ≡ min ((s + (half n + r * 2 ^ n)) / 16) M
unfolding R
put_once M s n r k e =
    ap (λ (x : ℕ). min x M)
    (ap (λ (x : ℕ). x / 2 ^ k) (sym (add-mul-div_right (s + half n) r (pow_pos n)))
    ∙ shr-shr (s + half n + r * 2 ^ n) n k
    ∙ ap₂ (λ (x y : ℕ). x / y) (add_assoc s (half n) (r * 2 ^ n)) (ap (λ (x : ℕ). 2 ^ x) e))

-- so they are at a place of pixels
pub put-at : (M : ℕ) (src : List ℕ) (p step f n r k : ℕ) → f ≤ 15 → n + k ≡ 4
    → clip M (shr_z (bilin_at (px src) p step f +ℤ pos (half n + r * 2 ^ n)) 16) ≡ clip M (shr_z (R n (bilin_at (px src) p step f) +ℤ pos r) (2 ^ k))
put-at M src p step f n r k m e =
    let a = get_or src p 0 in let b = get_or src (p + step) 0 in
    subst (λ (z : ℤ). clip M (shr_z (z +ℤ pos (half n + r * 2 ^ n)) 16) ≡ clip M (shr_z (R n z +ℤ pos r) (2 ^ k)))
    (weighed f (pos a) (pos b) (omega arith))
    (sym (put_once M ((16 - f) * a + f * b) n r k e))

-- what R(n) adds is small
pub half-small : {r n : ℕ} → r ≡ half n → n ≤ 4 → r ≤ 8
half-small {r} {n} e b = let h : 2 ^ n ≤ 16 = pow_mono b in omega arith
