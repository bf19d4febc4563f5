-- The low sixteen bits of a signed number, what `((v << 16) >> 16) as i16` is; and the low 32. Assumes nothing.
use Rattle.rows.proofs.Usual.{true, Bool, false, ◌≡◌, ◌∙◌, refl, ap, ◌-◌, ◌*◌, ◌≤◌, ◌<◌, ◌^◌, ℕ, ◌/◌, suc, ◌%◌, arith, T, ltb, pos, ℤ, ◌-ℤ◌, negsuc}
use Rattle.rows.proofs.Usual.{shr_z, w32, w16, w64, SFits, to_z, of_z, to_z-of_z, mod_z, low16, eq_of, sub_parts}
use mathlib.Core.Bool.{not}
use native.Mathlib.Nat.{mod-lt}
use lib.Dec.{ltb→lt, nltb→le}
use mir.Syntax.{Width}
use mir.Val.{bits, hbits, sel}
use mir.ValLaws.{to_z-Fits, to_z_pos}
use Rattle.rows.specs.Numbers.{low32}

-- by the half in which the bits lie
pub to_z_ind : (w : Width) (n : ℕ) (P : ℤ → Type 0) → (n < 2 ^ hbits w → P (pos n)) → (2 ^ hbits w ≤ n → P (negsuc (2 ^ bits w - suc n))) → P (to_z w n)
to_z_ind w n P f g = by_sel (ltb n (2 ^ hbits w)) (λ t. f (ltb→lt n (2 ^ hbits w) t)) (λ t. g (nltb→le n (2 ^ hbits w) t))
  where
    by_sel : (b : Bool) → (T b → P (pos n)) → (T (not b) → P (negsuc (2 ^ bits w - suc n))) → P (sel b (pos n) (negsuc (2 ^ bits w - suc n)))
    by_sel true f g = f tt
    by_sel false f g = g tt

-- ---- each law twice: of the low sixteen bits of 32, and of the low 32 of 64
-- these bits, moved to the top and back
moved : (r : ℕ) → r < 65536 → shr_z (to_z w32 (r * 65536)) 65536 ≡ to_z w16 r
moved r h =
    to_z_ind w32 (r * 65536) (λ (z : ℤ). shr_z z 65536 ≡ to_z w16 r)
    (λ l. to_z_ind w16 r (λ (z : ℤ). pos (r * 65536 / 65536) ≡ z) (λ k. ap pos (omega arith)) (λ k. absurd (omega arith)))
    (λ l. to_z_ind w16 r (λ (z : ℤ). negsuc ((2 ^ 32 - suc (r * 65536)) / 65536) ≡ z) (λ k. absurd (omega arith)) (λ k. ap negsuc (omega arith)))

moved32 : (r : ℕ) → r < 4294967296 → shr_z (to_z w64 (r * 4294967296)) 4294967296 ≡ to_z w32 r
moved32 r h =
    to_z_ind w64 (r * 4294967296) (λ (z : ℤ). shr_z z 4294967296 ≡ to_z w32 r)
    (λ l. to_z_ind w32 r (λ (z : ℤ). pos (r * 4294967296 / 4294967296) ≡ z) (λ k. ap pos (omega arith)) (λ k. absurd (omega arith)))
    (λ l. to_z_ind w32 r (λ (z : ℤ). negsuc ((2 ^ 64 - suc (r * 4294967296)) / 4294967296) ≡ z) (λ k. absurd (omega arith)) (λ k. ap negsuc (omega arith)))

cut : (n : ℕ) → (n * 65536 % 4294967296 ≡ n % 65536 * 65536) × (n * 4294967296 % 18446744073709551616 ≡ n % 4294967296 * 4294967296)
cut n = (omega arith, omega arith)

pub bits_mod : (v : ℤ) → SFits w32 v → of_z w32 v % 65536 ≡ mod_z v 65536
bits_mod (pos n) f = refl
bits_mod (negsuc n) f = omega arith

bits_mod32 : (v : ℤ) → SFits w64 v → of_z w64 v % 4294967296 ≡ mod_z v 4294967296
bits_mod32 (pos n) f = refl
bits_mod32 (negsuc n) f = omega arith

mod_less : (v : ℤ) (m : ℕ) → 0 < m → mod_z v m < m
mod_less (pos n) m h = mod-lt n h
mod_less (negsuc n) m h = omega (arith, mod-lt n h)

pub low16-fits : (v : ℤ) → SFits w16 (low16 v)
unfolding low16
low16-fits v = to_z-Fits w16 (mod_z v 65536) (record { fits = mod_less v 65536 (omega arith) })

pub low32-fits : (v : ℤ) → SFits w32 (low32 v)
unfolding low32
low32-fits v = to_z-Fits w32 (mod_z v 4294967296) (record { fits = mod_less v 4294967296 (omega arith) })

pub low16_shift : (v : ℤ) → SFits w32 v → shr_z (to_z w32 (of_z w32 v * 65536 % 4294967296)) 65536 ≡ low16 v
unfolding low16
low16_shift v f =
    ap (λ (n : ℕ). shr_z (to_z w32 n) 65536) ((cut (of_z w32 v)).0 ∙ ap (λ (n : ℕ). n * 65536) (bits_mod v f))
    ∙ moved (mod_z v 65536) (mod_less v 65536 (omega arith))

pub low32_shift : (v : ℤ) → SFits w64 v → shr_z (to_z w64 (of_z w64 v * 4294967296 % 18446744073709551616)) 4294967296 ≡ low32 v
unfolding low32
low32_shift v f =
    ap (λ (n : ℕ). shr_z (to_z w64 n) 4294967296) ((cut (of_z w64 v)).1 ∙ ap (λ (n : ℕ). n * 4294967296) (bits_mod32 v f))
    ∙ moved32 (mod_z v 4294967296) (mod_less v 4294967296 (omega arith))

-- ---- a shift to the left of a number from 0 up, where nothing is lost
pub shl_small : (n b : ℕ) → n * 2 ^ b < 2 ^ 31 → to_z w32 (n * 2 ^ b % 4294967296) ≡ pos (n * 2 ^ b)
shl_small n b h =
    let e : n * 2 ^ b % 4294967296 ≡ n * 2 ^ b = omega arith in
    ap (to_z w32) e ∙ to_z_pos w32 (n * 2 ^ b) h

-- what has sixteen bits is kept
mod_of : (v : ℤ) → SFits w16 v → mod_z v 65536 ≡ of_z w16 v
mod_of (pos n) f = omega arith
mod_of (negsuc n) f = omega arith

pub low16_keeps : (v : ℤ) → SFits w16 v → low16 v ≡ v
unfolding low16
low16_keeps v f = ap (to_z w16) (mod_of v f) ∙ to_z-of_z w16 v f

-- an intermediate minus nothing
minus_none : (v : ℤ) → v -ℤ pos 0 ≡ v
minus_none v = eq_of (v -ℤ pos 0) v (omega (arith, sub_parts v (pos 0)))

pub low16_again : (v : ℤ) → low16 (low16 v -ℤ pos 0) ≡ low16 v
low16_again v = ap low16 (minus_none (low16 v)) ∙ low16_keeps (low16 v) (low16-fits v)
