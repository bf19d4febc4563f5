-- A filter sum of numbers less 2^15, and 2^15 times the taps' own sum: together the filter sum of the numbers. Assumes nothing.
use Rattle.rows.proofs.Usual.{List, ◌≡◌, ◌∙◌, refl, ap, ap₂, ◌+◌, ◌*◌, ◌≤◌, ◌<◌, ◌^◌, ℕ, suc, zero, arith, pos, ℤ, ◌+ℤ◌, ◌*ℤ◌, ◌-ℤ◌, mag, w32, w16}
use Rattle.rows.proofs.Usual.{SFits, to_z, of_z, at, up, dn, sum_z, back, fit, mag-add, eq_of, sub_parts, abs_mag, mag-mul, add_parts, Summed, summed_mag}
use Rattle.rows.specs.Subpel.{S}
use Rattle.rows.proofs.Laws.Numbers.Signed.{sub_ind, mul_parts, mul-up, mul-dn}

-- a pixel less 2^15 has sixteen bits
pub centred_fits : (x : ℕ) → x < 2 ^ 16 → SFits w16 (pos x -ℤ pos 32768)
centred_fits x h = fit w16 (sub_ind x 32768 (λ (z : ℤ). mag z < 32768) (λ k. omega arith) (λ k. omega arith))

-- f (x - 2^15) + 2^15 f
one : (f x : ℤ) → f *ℤ (x -ℤ pos 32768) +ℤ f *ℤ pos 32768 ≡ f *ℤ x
one f x =
    let y = x -ℤ pos 32768 in
    let e : up y + dn x + 32768 ≡ dn y + up x = omega (arith, sub_parts x (pos 32768)) in
    eq_of (f *ℤ y +ℤ f *ℤ pos 32768) (f *ℤ x)
    (omega (
      arith,
      add_parts (f *ℤ y) (f *ℤ pos 32768),
      mul-up f 32768,
      mul-dn f 32768,
      mul_parts f y,
      mul_parts f x,
      ap (λ (k : ℕ). up f * k) e,
      ap (λ (k : ℕ). dn f * k) e,
    ))

paired : (A a B b : ℤ) → A +ℤ a +ℤ (B +ℤ b) *ℤ pos 32768 ≡ A +ℤ B *ℤ pos 32768 +ℤ (a +ℤ b *ℤ pos 32768)
paired A a B b =
    eq_of (A +ℤ a +ℤ (B +ℤ b) *ℤ pos 32768) (A +ℤ B *ℤ pos 32768 +ℤ (a +ℤ b *ℤ pos 32768))
    (omega (
      arith,
      add_parts (A +ℤ a) ((B +ℤ b) *ℤ pos 32768),
      add_parts A a,
      add_parts B b,
      mul-up (B +ℤ b) 32768,
      mul-dn (B +ℤ b) 32768,
      add_parts (A +ℤ B *ℤ pos 32768) (a +ℤ b *ℤ pos 32768),
      add_parts A (B *ℤ pos 32768),
      add_parts a (b *ℤ pos 32768),
      mul-up B 32768,
      mul-dn B 32768,
      mul-up b 32768,
      mul-dn b 32768,
    ))

all : (f x : ℕ → ℤ) (n : ℕ) → sum_z n (λ t. f t *ℤ (x t -ℤ pos 32768)) +ℤ sum_z n f *ℤ pos 32768 ≡ sum_z n (λ t. f t *ℤ x t)
unfolding sum_z
all f x zero = refl
all f x (suc n) =
    paired (sum_z n (λ t. f t *ℤ (x t -ℤ pos 32768))) (f n *ℤ (x n -ℤ pos 32768)) (sum_z n f) (f n)
    ∙ ap₂ (λ (a b : ℤ). a +ℤ b) (all f x n) (one (f n) (x n))

-- ---- the code's last step: s, the first sum, and 2^15 times t, the second

abbrev Whole : (s t : ℤ) → ℤ
Whole s t = s +ℤ to_z w32 (of_z w32 (to_z w32 (of_z w32 t) *ℤ pos 32768))

pub product_fits : (t : ℤ) → mag t < 2 ^ 11 → SFits w32 (to_z w32 (of_z w32 t) *ℤ pos 32768)
product_fits t h =
    rw (back (fit w32 {z = t} (omega arith))) (fit w32 (omega (arith, mag-mul t (pos 32768) 2048 32768 (omega (arith, abs_mag t)) (omega arith))))

whole_is : (s t : ℤ) → mag t < 2 ^ 11 → Whole s t ≡ s +ℤ t *ℤ pos 32768
whole_is s t h = rw (back (product_fits t h), back (fit w32 {z = t} (omega arith))) refl

whole-mag : {g : ℕ → ℤ} {s : ℤ} (t : ℤ) → Summed g (2 ^ 24) 8 s → mag t < 2 ^ 11 → mag (Whole s t) < 2 ^ 30
whole-mag {g} {s} t p h =
    rw (whole_is s t h)
    (omega (
      arith,
      summed_mag p,
      mag-add s (t *ℤ pos 32768),
      mag-mul t (pos 32768) 2048 32768 (omega (arith, abs_mag t)) (omega arith),
    ))

pub whole-fits : {g : ℕ → ℤ} {j : ℕ} {s : ℤ} (t : ℤ) → j ≤ 8 → 8 ≤ j → Summed g (2 ^ 24) j s → mag t < 2 ^ 11 → SFits w32 (Whole s t)
whole-fits {g} {j} t h k p m = let e : j ≡ 8 = omega arith in fit w32 (omega (arith, whole-mag t (rw e at p) m))

pub centred_whole : (f : List ℤ) (x : ℕ → ℤ) {j : ℕ} {s : ℤ} (t : ℤ) → j ≤ 8 → 8 ≤ j → Summed (λ k. at f k *ℤ (x k -ℤ pos 32768)) (2 ^ 24) j s
    → (t ≡ sum_z 8 (at f)) × (mag t < 2 ^ 11) → (to_z w32 (of_z w32 (Whole s t)) ≡ S f x) × (mag (to_z w32 (of_z w32 (Whole s t))) < 2 ^ 30)
unfolding S
centred_whole f x {j} {s} t h k p m =
    let e : j ≡ 8 = omega arith in
    let q = rw e at p in
    rw (back (whole-fits t h k p m.1))
    (whole_is s t m.1 ∙ ap₂ (λ (a b : ℤ). a +ℤ b *ℤ pos 32768) q.is m.0 ∙ all (at f) x 8, whole-mag t q m.1)
