-- Laws of the warp's filters: a filter's place in the table, half of a power, and taps that stand side by side. Assumes nothing.
use Rattle.rows.proofs.Usual.{true, List, ◌≡◌, ◌∙◌, ap, sym, subst, ◌-◌, ◌+◌, ◌*◌, ◌≤◌, ◌<◌, ◌^◌, ℕ, arith, ltb-true, T, pos, ℤ, ◌+ℤ◌, nat_abs, negsuc}
use Rattle.rows.proofs.Usual.{length, shr_z, at, low16, span, span-length, Upto}
use native.Mathlib.Nat.{mul-le-mul_right, mul-one, pow-suc, not-suc-le-zero}
use native.Mathlib.Numerals.{add-one}
use lib.Signed.{non_neg}
use Rattle.rows.specs.Numbers.{half}
use Rattle.rows.specs.Subpel.{filter, tapped, S}
use Rattle.rows.specs.Warp.{is_there}
use Rattle.rows.proofs.Laws.Blocks.Places.{span-at, row_done, length-row_of}
use Rattle.rows.proofs.Laws.Filters.Taps.{tapped_same}

-- a filter that is in the table has a place there
pub in_place : (n : ℕ) (z : ℤ) → is_there n z ≡ true → T (non_neg z) × (nat_abs z < n)
unfolding is_there
in_place n (pos k) e = (tt, ltb-true k n e)
in_place n (negsuc k) e = absurd (subst T (sym e) tt)

-- half of 2^n, as a power
pub half_of : (n : ℕ) → 1 ≤ n → 2 ^ (n - 1) ≡ half n
half_of n h =
    let e : n - 1 + 1 ≡ n = omega arith in
    let q : 2 ^ n ≡ 2 ^ (n - 1) * 2 = ap (λ (k : ℕ). 2 ^ k) (sym e ∙ add-one (n - 1)) ∙ pow-suc 2 (n - 1) in
    omega (arith, q)

-- what a table lends at a filter's place is that filter
pub lent-filter : (table : List ℤ) (n : ℕ) → 8 * n + 8 ≤ length table → span table (8 * n) (8 * n + 8) ≡ filter table n
unfolding filter
lent-filter table n fits =
    row_done (pos 0) 8 (λ t. at table (8 * n + t)) _ (span-length (pos 0) table (8 * n) (8 * n + 8) fits ∙ omega arith)
    λ t h. span-at (pos 0) table (8 * n) (8 * n + 8) fits t (omega arith)

pub length-filter : (table : List ℤ) (n : ℕ) (f : List ℤ) → f ≡ filter table n → length f ≡ 8
unfolding filter
length-filter table n f e = ap length e ∙ length-row_of 8 (λ t. at table (8 * n + t))

-- eight numbers side by side
beside : (g : List ℤ) (n : ℕ) (x : ℕ → ℤ) (o : ℕ) → shr_z (S g (λ t. x (o + t * 1)) +ℤ pos (half n)) (2 ^ n) ≡ tapped g (half n) n (λ t. x (o + t))
unfolding tapped
beside g n x o = tapped_same g (half n) n (λ t. x (o + t * 1)) (λ t. x (o + t)) λ t h. ap (λ (k : ℕ). x (o + k)) (mul-one t)

-- what is kept of the sum of eight numbers side by side, by a filter g
pub warp_kept_is : (x : ℕ → ℤ) (o n : ℕ) {f g : List ℤ} {s v : ℤ} → f ≡ g → s ≡ S f (λ t. x (o + t * 1)) → v ≡ low16 (shr_z (s +ℤ pos (half n)) (2 ^ n))
    → v ≡ low16 (tapped g (half n) n (λ t. x (o + t)))
warp_kept_is x o n {f} {g} {s} {v} ef es ev = rw (ev, es, ef) (ap low16 (beside g n x o))

-- the taps of row r, of the fifteen rows from place o on
pub tap_row : (l o s r : ℕ) → o + 14 * s + 8 ≤ l → r < 15 → o + r * s + 8 ≤ l
tap_row l o s r fits lt = let h : r ≤ 14 = omega arith in omega (arith, mul-le-mul_right s h)

-- a loop that writes a row of n begins
pub upto_start : {A : Type 0} {z : A} {f : ℕ → A} {n : ℕ} {d : List A} → length d ≡ n → Upto z f n 0 d
upto_start e = record { le = omega arith; len = e; same = λ k h. absurd (not-suc-le-zero h) }
