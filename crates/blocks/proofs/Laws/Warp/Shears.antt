-- The warp model's numbers: the top bit, the divisor's place in the table, ranges. Assumes nothing.
use Rattle.blocks.proofs.Usual.{true, Bool, ◌&&◌, List, ◌≡◌, ◌∙◌, refl, ap, ℕ, ◌≤◌, ◌*◌, ◌+◌, ◌-◌, ◌<◌, ◌^◌, suc, zero, ◌/◌, ◌%◌, arith, leb-true}
use Rattle.blocks.proofs.Usual.{le-leb, le-ltb, lt-leb, eqb-true, ltb-true, leb, pos, ℤ, negsuc, nat_abs, ◌*ℤ◌, length, le_z, lt_z, shr_z, w32, w64, SFits}
use Rattle.blocks.proofs.Usual.{to_z, at, lowest, need, and_true, by-lt, fit, one-part, le_yes, done, all_met}
use Prim.Native.Nat.{zero-le}
use native.Mathlib.Nat as N
use lib.Count.{count_leading_zeros, leading_top}
use lib.Pow.{pow_pos, pow-add, pow_mono, shl_lt, shl_exact}
use mir.Val.{bool_byte}
use Rattle.rows.specs.Numbers.{between, is_within}
use Rattle.rows.specs.Shear.{is_neg, top_below, top_bit, recip_place, recip_of, shift_of}
use Rattle.rows.proofs.Laws.Numbers.Signed.{mag-lt, mul-up, mul-dn, abs_parts}
use Rattle.blocks.specs.inner.Ready.{Divides, Entries, Moves}
use Rattle.blocks.specs.Shear.{recip_ok, divisor_tests, divisor_of, entries_ok, shear_tests, affine_mv_tests}
use Rattle.blocks.specs.declared.shear.Divisor.{Divisor}

-- ---- Q
-- a test v < 0, made a number
pub neg_bit : (v : ℤ) → to_z w64 (bool_byte (lt_z v (pos 0))) ≡ pos (is_neg v)
neg_bit (pos n) = rw (le-ltb n 0 zero-le)
neg_bit (negsuc n) = refl

pub neg_small : (v : ℤ) → is_neg v ≤ 1
neg_small (pos n) = omega arith
neg_small (negsuc n) = omega arith

-- rounded down to a multiple of 64, it fits still: the least number of 32 bits is such a multiple
pub down_fits : (z : ℤ) → SFits w32 z → SFits w32 (shr_z z 64 *ℤ pos 64)
down_fits (pos n) f = omega arith
down_fits (negsuc n) f =
    let z = negsuc (n / 64) in
    fit w32 (mag-lt (z *ℤ pos 64) (2 ^ 31) (omega (arith, mul-up z 64)) (omega (arith, mul-dn z 64)))

-- ---- the top bit: t is d's, counted from the other end by `count_leading_zeros`
pub record Top (d t : ℕ) : Type 0 where
  pub low : 2 ^ t ≤ d
  pub high : d < 2 ^ t + 2 ^ t
  pub small : t < 32
  pub count : count_leading_zeros 32 d + suc t ≡ 32

two : (k : ℕ) → 2 ^ suc k ≡ 2 ^ k + 2 ^ k
two k = N.pow-suc 2 k ∙ omega arith

-- a power at most d is below one above d
below_power : (i j d : ℕ) → 2 ^ i ≤ d → d < 2 ^ j → i < j
below_power i j d h k = by-lt i j (λ l. l) λ l. absurd (omega (arith, pow_mono {j = i} l))

-- no other number is the top bit
top_only : (n d t : ℕ) → 2 ^ t ≤ d → d < 2 ^ suc t → t < n → top_below n d ≡ t
unfolding top_below
top_only zero d t lo hi h = absurd (omega arith)
top_only (suc n) d t lo hi h =
    by-lt d (2 ^ n)
    (λ l. rw (lt-leb (2 ^ n) d l) (top_only n d t lo hi (below_power t n d lo l)))
    λ l. rw (le-leb (2 ^ n) d l) (omega (arith, below_power n (suc t) d l hi))

pub top-is : (d : ℕ) → 0 < d → d < 2 ^ 32 → Top d (top_bit d)
top-is d p h =
    let j = leading_top 32 d p h in
    let small : j.0 < 32 = omega (arith, j.1) in
    rw (top_only 32 d j.0 j.2 j.3 small)
    (record { low = j.2; high = omega (arith, j.3, two j.0); small = small; count = j.1 })

-- 1 << k
pub one_shl : (k : ℕ) → k < 32 → 1 * 2 ^ k % 4294967296 ≡ 2 ^ k
one_shl k h = shl_exact {a = 1} 1 k 32 (omega arith) (omega arith) ∙ N.one-mul (2 ^ k)

pub one_shl64 : (k : ℕ) → k < 64 → 1 * 2 ^ k % 18446744073709551616 ≡ 2 ^ k
one_shl64 k h = shl_exact {a = 1} 1 k 64 (omega arith) (omega arith) ∙ N.one-mul (2 ^ k)

-- ---- the place of a reciprocal: of a small divisor, t at most 7
pub few : {d t : ℕ} → Top d t → t ≤ 7 → (d - 2 ^ t) * 2 ^ (7 - t) < 128
few {d} {t} p h =
    let e : t + (7 - t) ≡ 7 = omega arith in
    let l : d - 2 ^ t < 2 ^ t = omega (arith, p.low, p.high) in
    rw (ap (λ (k : ℕ). 2 ^ k) e) at (shl_lt {a = d - 2 ^ t} t (7 - t) l)

pub place_few : (d : ℕ) → top_bit d ≤ 7 → recip_place d ≡ (d - 2 ^ top_bit d) * 2 ^ (7 - top_bit d)
unfolding recip_place
place_few d h = rw (le-leb (top_bit d) 7 h)

-- and of a larger one
pub place_many : (d : ℕ) → 7 < top_bit d → recip_place d ≡ (d - 2 ^ top_bit d + 2 ^ (top_bit d - 8)) / 2 ^ (top_bit d - 7)
unfolding recip_place
place_many d h = rw (lt-leb (top_bit d) 7 h)

pub record Many (d t : ℕ) : Type 0 where
  pub half : 2 ^ (t - 7) ≡ 2 * 2 ^ (t - 8)
  pub all : 2 ^ t ≡ 256 * 2 ^ (t - 8)
  pub last : (d - 2 ^ t + 2 ^ (t - 8)) / 2 ^ (t - 7) ≤ 128
  pub sum : d - 2 ^ t + 2 ^ (t - 8) < 4294967296

pub many : {d t : ℕ} → Top d t → 7 < t → d < 2 ^ 32 → Many d t
many {d} {t} p h f =
    let e : t ≡ 8 + (t - 8) = omega arith in
    let e7 : t - 7 ≡ 1 + (t - 8) = omega arith in
    let a : 2 ^ t ≡ 256 * 2 ^ (t - 8) = ap (λ (k : ℕ). 2 ^ k) e ∙ pow-add 2 8 (t - 8) in
    let b : 2 ^ (t - 7) ≡ 2 * 2 ^ (t - 8) = ap (λ (k : ℕ). 2 ^ k) e7 ∙ pow-add 2 1 (t - 8) in
    let q : d - 2 ^ t + 2 ^ (t - 8) < 129 * 2 ^ (t - 7) = omega (arith, p.low, p.high, pow_pos (t - 8)) in
    record {
      half = b;
      all = a;
      last = N.le_of_suc-le-suc ((N.div-lt_iff_lt-mul (pow_pos (t - 7))).1 q);
      sum = omega (arith, p.low, p.high, f);
    }

-- ---- the tests
pub div_ok : (d n : ℕ) → lowest (divisor_tests d n) ≡ 0 → Divides d n
unfolding recip_ok
div_ok d n e =
    let m = all_met (divisor_tests d n) e in
    let q = and_true (leb 1 d) (leb d 2147483647) m.0 in
    record { least = leb-true 1 d q.0; most = leb-true d 2147483647 q.1; held = eqb-true n 129 m.1.0 }

pub ok_div : {d n : ℕ} → Divides d n → lowest (divisor_tests d n) ≡ 0
unfolding recip_ok need
ok_div {d} {n} p = rw (le-leb 1 d p.least, le-leb d 2147483647 p.most, p.held)

pub div-y : (d : ℕ) (recip : List ℕ) → Divides d (length recip) → (divisor_of d recip).y ≡ recip_of recip d
unfolding divisor_of
div-y d recip p = ap (λ (x : Divisor). x.y) (done _ _ _ (ok_div p))

pub div_shift : (d : ℕ) (recip : List ℕ) → Divides d (length recip) → (divisor_of d recip).shift ≡ pos (shift_of d)
unfolding divisor_of
div_shift d recip p = ap (λ (x : Divisor). x.shift) (done _ _ _ (ok_div p))

pub entries_met : (m : List ℤ) → entries_ok m ≡ true → Entries m
unfolding entries_ok
entries_met m e =
    let t : ℕ → Bool = λ i. is_within (2 ^ 22) (at m i) in
    let p = and_true (t 2 && t 3 && t 4) (t 5) e in
    let q = and_true (t 2 && t 3) (t 4) p.0 in
    let r = and_true (t 2) (t 3) q.0 in
    record { second = leb-true _ _ r.0; third = leb-true _ _ r.1; fourth = leb-true _ _ q.1; fifth = leb-true _ _ p.1 }

above_0 : (z : ℤ) → lt_z (pos 0) z ≡ true → 1 ≤ nat_abs z
above_0 (pos n) e = omega (arith, ltb-true 0 n e)
above_0 (negsuc n) e = omega arith

pub shear_ready : (m : List ℤ) (rl : ℕ) → lowest (shear_tests m rl) ≡ 0 → Entries m × Divides (nat_abs (at m 2)) rl
unfolding recip_ok
shear_ready m rl e =
    let t = all_met (shear_tests m rl) e in
    let s = entries_met m t.0 in
    (s, record { least = above_0 (at m 2) t.1.1.0; most = omega (arith, s); held = eqb-true rl 129 t.1.0 })

between-abs : (lo hi : ℕ) (v : ℤ) → between (pos lo) (pos hi) v ≡ true → nat_abs v ≤ hi
between-abs lo hi v e =
    let p = and_true (le_z (pos lo) v) (le_z v (pos hi)) e in
    omega (arith, le_yes (pos lo) v p.0, le_yes v (pos hi) p.1, abs_parts v, one-part v)

pub affine_mv_ready : (bw4 bh4 mvx mvy : ℤ) (m : List ℤ) (bx4 by4 : ℤ) → lowest (affine_mv_tests bw4 bh4 mvx mvy m bx4 by4) ≡ 0
    → Moves bw4 bh4 mvx mvy bx4 by4 × Entries m
affine_mv_ready bw4 bh4 mvx mvy m bx4 by4 e =
    let s = all_met (affine_mv_tests bw4 bh4 mvx mvy m bx4 by4) e in
    let p = s.1.1 in
    let v = p.1.1 in (
      record {
        width = between-abs 1 64 bw4 s.0;
        height = between-abs 1 64 bh4 s.1.0;
        mv_x = leb-true _ _ v.0;
        mv_y = leb-true _ _ v.1.0;
        column = between-abs 0 16384 bx4 p.0;
        row = between-abs 0 16384 by4 p.1.0;
      },
      entries_met m v.1.1.0,
    )
