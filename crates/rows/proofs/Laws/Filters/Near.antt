-- Sums by near taps: their sizes sum to 128 at most, so each part of a sum of bytes is within 128 * 255 of 0, which sixteen bits hold.
-- Assumes nothing.
use Rattle.rows.proofs.Usual.{List, ◌≡◌, ◌∙◌, refl, ap, sym, ap₂, ◌-◌, ◌+◌, ◌*◌, ◌≤◌, ◌<◌, ◌^◌, ℕ, ◌/◌, suc, zero, ◌%◌, arith, pos, ℤ, ◌+ℤ◌, ◌*ℤ◌, ◌-ℤ◌}
use Rattle.rows.proofs.Usual.{nat_abs, negsuc, get_or, shr_z, sfits_widen, w32, w16, w8, SFits, to_z, of_z, to_z-of_z, at, up, minus16, dn, mod_z, low16, sum_z}
use Rattle.rows.proofs.Usual.{row_of, back, fit, fit_abs, eq_of, sub_parts, abs-add, add_parts}
use native.Mathlib.Nat.{le_refl, zero-add, suc-add, div-add-mod', mod-lt, mul-div_cancel}
use native.Mathlib.Numerals.{add-one}
use lib.IntN.{+ℤ_assoc}
use lib.Pow.{pow_pos, pow-add}
use Rattle.rows.specs.Numbers.{sum}
use Rattle.rows.specs.Subpel.{S, tapped}
use Rattle.rows.specs.inner.Subpel.{Near}
use Rattle.rows.proofs.Laws.Blocks.Places.{row_same, row_of_lem, get_d_row_of}
use Rattle.rows.proofs.Laws.Numbers.Signed.{mul-up, mul-dn, mul_parts, mag-lt}

-- a tap, widened to sixteen bits
pub wide8_16 : {z : ℤ} → SFits w8 z → SFits w16 z
wide8_16 f = sfits_widen tt f

pub back8_16 : {z : ℤ} → SFits w8 z → to_z w16 (of_z w16 (to_z w8 (of_z w8 z))) ≡ z
back8_16 {z} f = ap (λ (y : ℤ). to_z w16 (of_z w16 y)) (to_z-of_z w8 z f) ∙ to_z-of_z w16 z (wide8_16 f)

-- the sizes of the first j taps
abbrev pub sizes : List ℤ → ℕ → ℕ
sizes f j = sum j (λ t. nat_abs (at f t))

sum_grows : (g : ℕ → ℕ) (j k : ℕ) → sum j g ≤ sum (k + j) g
unfolding sum
sum_grows g j zero = rw (zero-add j) (le_refl (sum j g))
sum_grows g j (suc k) = rw (suc-add k j) (omega (arith, sum_grows g j k))

-- what the first taps leave for tap j
pub sizes_room : (f : List ℤ) (j : ℕ) → j < 8 → Near f → sizes f j + nat_abs (at f j) ≤ 128
unfolding sum
sizes_room f j h n =
    let e : 7 - j + suc j ≡ 8 = omega arith in
    omega (arith, rw e at (sum_grows (λ t. nat_abs (at f t)) (suc j) (7 - j)))

-- a local is the sum of the first j taps, which sixteen bits hold
pub record NearSum (f : List ℤ) (x : ℕ → ℤ) (j : ℕ) (s : ℤ) : Type 0 where
  pub le : j ≤ 8
  pub is : s ≡ sum_z j (λ t. at f t *ℤ x t)
  pub most : nat_abs (sum_z j (λ t. at f t *ℤ x t)) ≤ sizes f j * 255
  pub few : sizes f j ≤ 128

pub near_none : (f : List ℤ) (x : ℕ → ℤ) → NearSum f x 0 (pos 0)
unfolding sum_z sum
near_none f x = record { le = omega arith; is = refl; most = omega arith; few = omega arith }

pub near_is : {f : List ℤ} {x : ℕ → ℤ} {j : ℕ} {s : ℤ} → NearSum f x j s → s ≡ sum_z j (λ t. at f t *ℤ x t)
near_is p = p.is

-- the product of tap j, which is read back from its bits, still fits
pub near_room : {f : List ℤ} {x : ℕ → ℤ} {j : ℕ} {s : ℤ} → NearSum f x j s → j < 8 → Near f → SFits w8 (at f j)
    → nat_abs s + nat_abs (to_z w8 (of_z w8 (at f j))) * 255 ≤ 32640
near_room {f} {x} {j} p h n b = rw (back b, p.is) (omega (arith, p.most, sizes_room f j h n))

-- and y, what it is multiplied with, is number j
pub near_more :
    {f : List ℤ} {x : ℕ → ℤ} {j : ℕ} {s r y : ℤ} → NearSum f x j s → j < 8 → Near f → SFits w8 (at f j) → y ≡ x j
    → (r ≡ s +ℤ to_z w8 (of_z w8 (at f j)) *ℤ y) × (nat_abs (to_z w8 (of_z w8 (at f j)) *ℤ y) ≤ nat_abs (to_z w8 (of_z w8 (at f j))) * 255)
    → NearSum f x (j + 1) r
unfolding sum_z sum
near_more {f} {x} {j} p h n b q made =
    let e = rw (back b, q) at made in
    rw add-one
    (record {
      le = h;
      is = e.0 ∙ ap (λ (y : ℤ). y +ℤ at f j *ℤ x j) p.is;
      most = omega (arith, p.most, e.1, abs-add (sum_z j (λ t. at f t *ℤ x t)) (at f j *ℤ x j));
      few = sizes_room f j h n;
    })

-- the whole sum
pub near_all : {f : List ℤ} {x : ℕ → ℤ} {j : ℕ} {s : ℤ} → NearSum f x j s → 8 ≤ j → (s ≡ S f x) × (nat_abs s ≤ 32640)
unfolding S
near_all {f} {x} {j} p h =
    let e : j ≡ 8 = omega (arith, p.le) in
    let q = rw e at p in
    (q.is, rw q.is (omega (arith, q.most, q.few)))

-- ---- a wider number is 256 times its high byte and its low byte; so is a sum of such numbers
pub split : (x : ℤ) → shr_z x 256 *ℤ pos 256 +ℤ pos (mod_z x 256) ≡ x
split (pos n) = ap pos (omega arith)
split (negsuc n) =
    let h = negsuc (n / 256) *ℤ pos 256 in
    eq_of (h +ℤ pos (255 - n % 256)) (negsuc n)
    (omega (arith, add_parts h (pos (255 - n % 256)), mul-up (negsuc (n / 256)) 256, mul-dn (negsuc (n / 256)) 256))

pub low_byte : (x : ℤ) → mod_z x 256 ≤ 255
low_byte (pos n) = omega arith
low_byte (negsuc n) = omega arith

pub high_byte : (x : ℤ) → SFits w16 x → nat_abs (shr_z x 256) ≤ 128
high_byte (pos n) f = omega (arith, f.sfits)
high_byte (negsuc n) f = omega (arith, f.sfits)

-- f (256 h + l)
over : (f h l : ℤ) → f *ℤ h *ℤ pos 256 +ℤ f *ℤ l ≡ f *ℤ (h *ℤ pos 256 +ℤ l)
over f h l =
    let x = h *ℤ pos 256 +ℤ l in
    let e : up x + dn h * 256 + dn l ≡ dn x + up h * 256 + up l = omega (arith, add_parts (h *ℤ pos 256) l, mul-up h 256, mul-dn h 256) in
    eq_of (f *ℤ h *ℤ pos 256 +ℤ f *ℤ l) (f *ℤ x)
    (omega (
      arith,
      add_parts (f *ℤ h *ℤ pos 256) (f *ℤ l),
      mul-up (f *ℤ h) 256,
      mul-dn (f *ℤ h) 256,
      mul_parts f h,
      mul_parts f l,
      mul_parts f x,
      ap (λ (k : ℕ). up f * k) e,
      ap (λ (k : ℕ). dn f * k) e,
    ))

joined : (A a B b : ℤ) → (A +ℤ a) *ℤ pos 256 +ℤ (B +ℤ b) ≡ A *ℤ pos 256 +ℤ B +ℤ (a *ℤ pos 256 +ℤ b)
joined A a B b =
    eq_of ((A +ℤ a) *ℤ pos 256 +ℤ (B +ℤ b)) (A *ℤ pos 256 +ℤ B +ℤ (a *ℤ pos 256 +ℤ b))
    (omega (
      arith,
      add_parts ((A +ℤ a) *ℤ pos 256) (B +ℤ b),
      mul-up (A +ℤ a) 256,
      mul-dn (A +ℤ a) 256,
      add_parts A a,
      add_parts B b,
      add_parts (A *ℤ pos 256 +ℤ B) (a *ℤ pos 256 +ℤ b),
      add_parts (A *ℤ pos 256) B,
      add_parts (a *ℤ pos 256) b,
      mul-up A 256,
      mul-dn A 256,
      mul-up a 256,
      mul-dn a 256,
    ))

abbrev pub highs : (ℕ → ℤ) → ℕ → ℤ
highs x t = shr_z (x t) 256

abbrev pub lows : (ℕ → ℤ) → ℕ → ℤ
lows x t = pos (mod_z (x t) 256)

whole : (f : List ℤ) (x : ℕ → ℤ) (n : ℕ) → sum_z n (λ t. at f t *ℤ highs x t) *ℤ pos 256 +ℤ sum_z n (λ t. at f t *ℤ lows x t) ≡ sum_z n (λ t. at f t *ℤ x t)
unfolding sum_z
whole f x zero = refl
whole f x (suc n) =
    joined (sum_z n (λ t. at f t *ℤ highs x t)) (at f n *ℤ highs x n) (sum_z n (λ t. at f t *ℤ lows x t)) (at f n *ℤ lows x n)
    ∙ ap₂ (λ (a b : ℤ). a +ℤ b) (whole f x n) (over (at f n) (highs x n) (lows x n) ∙ ap (λ (v : ℤ). at f n *ℤ v) (split (x n)))

pub whole_sum : (f : List ℤ) (x : ℕ → ℤ) → S f (highs x) *ℤ pos 256 +ℤ S f (lows x) ≡ S f x
unfolding S
whole_sum f x = whole f x 8

-- both sums, read back from their bits
pub parts_fit :
    {h l H L : ℤ} → (h ≡ H) × (nat_abs h ≤ 32640) → (l ≡ L) × (nat_abs l ≤ 32640) → (nat_abs (to_z w16 (of_z w16 h)) ≤ 32640) × (nat_abs (to_z w16 (of_z w16 l)) ≤ 32640)
parts_fit {h} {l} a b = rw (back (fit_abs w16 h (omega (arith, a.1))), back (fit_abs w16 l (omega (arith, b.1)))) (a.1, b.1)

pub whole_is : (f : List ℤ) (x : ℕ → ℤ) {h l : ℤ} → (h ≡ S f (highs x)) × (nat_abs h ≤ 32640) → (l ≡ S f (lows x)) × (nat_abs l ≤ 32640)
    → to_z w16 (of_z w16 h) *ℤ pos 256 +ℤ to_z w16 (of_z w16 l) ≡ S f x
whole_is f x {h} {l} a b = rw (back (fit_abs w16 h (omega (arith, a.1))), back (fit_abs w16 l (omega (arith, b.1))), a.0, b.0) (whole_sum f x)

-- what is kept of them, and of a sum that was made whole
pub near_kept_is : (f : List ℤ) (x : ℕ → ℤ) (r n : ℕ) {h l v b : ℤ} → SFits w16 v → SFits w16 b
    → (h ≡ S f (highs x)) × (nat_abs h ≤ 32640) → (l ≡ S f (lows x)) × (nat_abs l ≤ 32640)
    → v ≡ minus16 (low16 (shr_z (to_z w16 (of_z w16 h) *ℤ pos 256 +ℤ to_z w16 (of_z w16 l) +ℤ pos r) (2 ^ n))) (to_z w16 (of_z w16 b))
    → to_z w16 (of_z w16 v) ≡ minus16 (low16 (tapped f r n x)) b
unfolding tapped
near_kept_is f x r n fv fb hs ls e = rw (back fv, e, whole_is f x hs ls, back fb)

pub rounded_is : (f : List ℤ) (x : ℕ → ℤ) (r n : ℕ) {s v : ℤ} → SFits w32 v → SFits w32 s → s ≡ S f x → v ≡ shr_z (to_z w32 (of_z w32 s) +ℤ pos r) (2 ^ n)
    → to_z w32 (of_z w32 v) ≡ tapped f r n x
unfolding tapped
rounded_is f x r n fv fs q e = rw (back fv, e, back fs, q)

pub kept_is : (f : List ℤ) (x : ℕ → ℤ) (r n : ℕ) {s v b : ℤ} → SFits w16 v → SFits w16 b → SFits w32 s → s ≡ S f x
    → v ≡ minus16 (low16 (shr_z (to_z w32 (of_z w32 s) +ℤ pos r) (2 ^ n))) (to_z w16 (of_z w16 b)) → to_z w16 (of_z w16 v) ≡ minus16 (low16 (tapped f r n x)) b
unfolding tapped
kept_is f x r n fv fb fs q e = rw (back fv, e, back fs, q, back fb)

-- what the high byte leaves is the low one
pub low-is : (x : ℤ) → x -ℤ shr_z x 256 *ℤ pos 256 ≡ pos (mod_z x 256)
low-is x =
    eq_of (x -ℤ shr_z x 256 *ℤ pos 256) (pos (mod_z x 256))
    (omega
    (arith, sub_parts x (shr_z x 256 *ℤ pos 256), add_parts (shr_z x 256 *ℤ pos 256) (pos (mod_z x 256)), ap up (split x), ap dn (split x)))

pub high-up : (x : ℤ) → SFits w16 x → SFits w16 (shr_z x 256 *ℤ pos 256)
high-up (pos n) f = fit w16 (omega (arith, f.sfits))
high-up (negsuc n) f =
    fit w16
    (mag-lt (negsuc (n / 256) *ℤ pos 256) 32768 (omega (arith, mul-up (negsuc (n / 256)) 256)) (omega (arith, f.sfits, mul-dn (negsuc (n / 256)) 256)))

-- a copy of a row that was made apart
pub row_copied : {A : Type 0} (z : A) (g : ℕ → A) {n m : ℕ} {l d : List A} → n ≡ m → d ≡ row_of n (λ k. get_or l k z) → l ≡ row_of m g → d ≡ row_of n g
row_copied {A} z g {n} {m} {l} e p q =
    p ∙ row_same z n (λ k. get_or l k z) g (λ i h. ap (λ (x : List A). get_or x i z) q ∙ get_d_row_of z m g i (omega arith))

-- ---- a shift that rounds down, of a number that is known as q m + r
quotient : (q : ℤ) (m r : ℕ) → r < m → shr_z (q *ℤ pos m +ℤ pos r) m ≡ q
quotient (pos a) m r h = ap pos (row_of_lem m r a h)
quotient (negsuc a) m r h =
    let e : negsuc a *ℤ pos m +ℤ pos r ≡ negsuc (a * m + (m - 1 - r)) =
    eq_of (negsuc a *ℤ pos m +ℤ pos r) (negsuc (a * m + (m - 1 - r)))
    (omega (arith, add_parts (negsuc a *ℤ pos m) (pos r), mul-up (negsuc a) m, mul-dn (negsuc a) m)) in
    ap (λ (z : ℤ). shr_z z m) e ∙ ap negsuc (row_of_lem m (m - 1 - r) a (omega arith))

-- each number is so
divided : (z : ℤ) (m : ℕ) → 0 < m → (shr_z z m *ℤ pos m +ℤ pos (mod_z z m) ≡ z) × (mod_z z m < m)
divided (pos n) m h = (ap pos (div-add-mod' n m), mod-lt n h)
divided (negsuc n) m h = (
  eq_of (negsuc (n / m) *ℤ pos m +ℤ pos (m - 1 - n % m)) (negsuc n)
      (omega
      (arith, add_parts (negsuc (n / m) *ℤ pos m) (pos (m - 1 - n % m)), mul-up (negsuc (n / m)) m, mul-dn (negsuc (n / m)) m, div-add-mod' n m, mod-lt n h)),
  omega (arith, mod-lt n h),
)

-- h k m + (q m + r) is (h k + q) m + r
gathered : (h q : ℤ) (k m r : ℕ) → h *ℤ pos (k * m) +ℤ (q *ℤ pos m +ℤ pos r) ≡ (h *ℤ pos k +ℤ q) *ℤ pos m +ℤ pos r
gathered h q k m r =
    let a = h *ℤ pos k +ℤ q in
    let e : up a + dn h * k + dn q ≡ dn a + up h * k + up q = omega (arith, add_parts (h *ℤ pos k) q, mul-up h k, mul-dn h k) in
    eq_of (h *ℤ pos (k * m) +ℤ (q *ℤ pos m +ℤ pos r)) (a *ℤ pos m +ℤ pos r)
    (omega (
      arith,
      add_parts (h *ℤ pos (k * m)) (q *ℤ pos m +ℤ pos r),
      add_parts (q *ℤ pos m) (pos r),
      add_parts (a *ℤ pos m) (pos r),
      mul-up h (k * m),
      mul-dn h (k * m),
      mul-up q m,
      mul-dn q m,
      mul-up a m,
      mul-dn a m,
      ap (λ (x : ℕ). x * m) e,
    ))

-- what m divides is shifted apart
pub shr-apart : (h y : ℤ) (k m : ℕ) → 0 < m → shr_z (h *ℤ pos (k * m) +ℤ y) m ≡ h *ℤ pos k +ℤ shr_z y m
shr-apart h y k m b =
    let d = divided y m b in
    ap (λ (v : ℤ). shr_z (h *ℤ pos (k * m) +ℤ v) m) (sym d.0)
    ∙ ap (λ (v : ℤ). shr_z v m) (gathered h (shr_z y m) k m (mod_z y m))
    ∙ quotient (h *ℤ pos k +ℤ shr_z y m) m (mod_z y m) d.1

-- 2^n divides 256
halves : (n : ℕ) → n ≤ 8 → (256 / 2 ^ n * 2 ^ n ≡ 256) × (0 < 2 ^ n)
halves n h =
    let b : 0 < 2 ^ n = pow_pos n in
    let k : 8 - n + n ≡ 8 = omega arith in
    let e : 2 ^ (8 - n) * 2 ^ n ≡ 256 = sym (pow-add 2 (8 - n) n) ∙ ap (λ (x : ℕ). 2 ^ x) k in
    (ap (λ (x : ℕ). x / 2 ^ n * 2 ^ n) (sym e) ∙ ap (λ (x : ℕ). x * 2 ^ n) (mul-div_cancel (2 ^ (8 - n)) b) ∙ e, b)

pub joined_shr : (h l : ℤ) (r n : ℕ) → n ≤ 8 → shr_z (h *ℤ pos 256 +ℤ l +ℤ pos r) (2 ^ n) ≡ h *ℤ pos (256 / 2 ^ n) +ℤ shr_z (l +ℤ pos r) (2 ^ n)
joined_shr h l r n b =
    let p = halves n b in
    ap (λ (v : ℤ). shr_z v (2 ^ n)) (+ℤ_assoc (h *ℤ pos 256) l (pos r))
    ∙ ap (λ (k : ℕ). shr_z (h *ℤ pos k +ℤ (l +ℤ pos r)) (2 ^ n)) (sym p.0)
    ∙ shr-apart h (l +ℤ pos r) (256 / 2 ^ n) (2 ^ n) p.1
