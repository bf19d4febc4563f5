-- The filters of a pass are in the table where those at its four corners are: the number grows, or falls, with the row and with the column.
-- Assumes nothing.
use Rattle.blocks.proofs.Usual.{true, Bool, false, ◌&&◌, ◌≡◌, refl, sym, subst, ℕ, ◌≤◌, ◌*◌, ◌+◌, ◌-◌, ◌<◌, suc, zero, ◌/◌, arith, lt-ltb, ltb-true, ltb}
use Rattle.blocks.proofs.Usual.{pos, ℤ, negsuc, nat_abs, ◌+ℤ◌, ◌*ℤ◌, lt_z, shr_z, up, dn, and_true, one-part, add_parts}
use mathlib.Core.Logic.{⊎_elim}
use native.Mathlib.Nat as N
use lib.Dec.{T}
use Rattle.rows.specs.Warp.{filter_no, is_there, every}
use Rattle.rows.proofs.Laws.Numbers.Signed.{sub_ind, times_up, times_dn}

-- ---- tests of all
pub every-at : (n : ℕ) (p : ℕ → Bool) → every n p ≡ true → (k : ℕ) → k < n → p k ≡ true
unfolding every
every-at zero p e k h = absurd (omega arith)
every-at (suc n) p e k h =
    let q = and_true (every n p) (p n) e in
    let l : k ≤ n = omega arith in
    ⊎_elim (λ i. rw i q.1) (every-at n p q.0 k) (N.eq-or-lt_of_le l)

pub all_every : (n : ℕ) (p : ℕ → Bool) → ((k : ℕ) → k < n → p k ≡ true) → every n p ≡ true
unfolding every
all_every zero p f = refl
all_every (suc n) p f = rw (all_every n p (λ k h. f k (omega arith)), f n (omega arith))

pub same_test : (a b : Bool) → (a ≡ true → b ≡ true) → (b ≡ true → a ≡ true) → a ≡ b
same_test true b f g = sym (f refl)
same_test false true f g = g refl
same_test false false f g = refl

-- ---- a filter's number is in the table: by the parts of the sum that is shifted
abbrev Within : ℕ → ℕ → ℕ → Type 0
Within n P M = (M ≤ P + 196608) × (P + 196608 < M + n * 1024)

nope : {X : Type 0} → false ≡ true → X
nope e = absurd (subst T (sym e) tt)

in_within : (n : ℕ) (s : ℤ) → is_there n (pos 192 +ℤ shr_z s 1024) ≡ true → Within n (up s) (dn s)
unfolding is_there
in_within n (pos m) e = omega (arith, ltb-true (192 + m / 1024) n e)
in_within n (negsuc m) e =
    sub_ind 192 (suc (m / 1024)) (λ (z : ℤ). is_there n z ≡ true → Within n 0 (suc m))
    (λ h t. nope t)
    (λ h t. omega (arith, ltb-true (192 - suc (m / 1024)) n t))
    e

within_in : (n : ℕ) (s : ℤ) → Within n (up s) (dn s) → is_there n (pos 192 +ℤ shr_z s 1024) ≡ true
unfolding is_there
within_in n (pos m) h = lt-ltb (192 + m / 1024) n (omega arith)
within_in n (negsuc m) h =
    sub_ind 192 (suc (m / 1024)) (λ (z : ℤ). is_there n z ≡ true)
    (λ g. absurd (omega arith))
    (λ g. lt-ltb (192 - suc (m / 1024)) n (omega arith))

-- ---- the sum, by the parts of its summands
module _ (m a b : ℤ) (r c : ℕ) where
  abbrev above : ℕ
  above = up m + c * up a + r * up b + 512

  abbrev below : ℕ
  below = dn m + c * dn a + r * dn b

  abbrev s : ℤ
  s = m +ℤ pos c *ℤ a +ℤ pos r *ℤ b +ℤ pos 512

  balance : up s + below ≡ dn s + above
  balance =
      let t = m +ℤ pos c *ℤ a in
      omega
      (arith, add_parts m (pos c *ℤ a), add_parts t (pos r *ℤ b), add_parts (t +ℤ pos r *ℤ b) (pos 512), times_up c a, times_dn c a, times_up r b, times_dn r b)

  there : (n : ℕ) → is_there n (filter_no m a b r c) ≡ true → Within n above below
  unfolding filter_no
  there n e = omega (arith, in_within n s e, balance)

  here : (n : ℕ) → Within n above below → is_there n (filter_no m a b r c) ≡ true
  unfolding filter_no
  here n h = within_in n s (omega (arith, h, balance))

-- the corners speak for all
corners : (n : ℕ) (m a b : ℤ) (R r c : ℕ) → R ≤ 14 → r ≤ R → c ≤ 7
    → Within n (above m a b 0 0) (below m a b 0 0) → Within n (above m a b 0 7) (below m a b 0 7)
    → Within n (above m a b R 0) (below m a b R 0) → Within n (above m a b R 7) (below m a b R 7)
    → Within n (above m a b r c) (below m a b r c)
corners n m a b R r c hR hr hc p q s t =
    omega (
      arith,
      N.mul-le-mul_right (up a) hc,
      N.mul-le-mul_right (dn a) hc,
      N.mul-le-mul_right (up b) hr,
      N.mul-le-mul_right (dn b) hr,
      N.mul-le-mul_right (up b) hR,
      N.mul-le-mul_right (dn b) hR,
      one-part a,
      one-part b,
    )

-- the four tests say what all the tests of a pass say
module _ (n R : ℕ) (m a b : ℤ) (hR : R ≤ 14) where
  abbrev t : ℕ → ℕ → Bool
  t r c = is_there n (filter_no m a b r c)

  yes : (t 0 0 && t 0 7 && t R 0 && t R 7) ≡ true → every (suc R) (λ r. every 8 (t r)) ≡ true
  yes e =
      let p = and_true (t 0 0 && t 0 7 && t R 0) (t R 7) e in
      let q = and_true (t 0 0 && t 0 7) (t R 0) p.0 in
      let o = and_true (t 0 0) (t 0 7) q.0 in
      all_every (suc R) _ (λ r hr. all_every 8 _ (λ c hc.
      here m a b r c n (corners n m a b R r c hR (omega arith) (omega arith)
      (there m a b 0 0 n o.0) (there m a b 0 7 n o.1) (there m a b R 0 n q.1) (there m a b R 7 n p.1))))

  no : every (suc R) (λ r. every 8 (t r)) ≡ true → (t 0 0 && t 0 7 && t R 0 && t R 7) ≡ true
  no e =
      let f : (r c : ℕ) → r < suc R → c < 8 → t r c ≡ true = λ r c hr hc. every-at 8 _ (every-at (suc R) _ e r hr) c hc in
      rw (f 0 0 (omega arith) (omega arith), f 0 7 (omega arith) (omega arith), f R 0 (omega arith) (omega arith), f R 7 (omega arith) (omega arith))

  pub four_all : (t 0 0 && t 0 7 && t R 0 && t R 7) ≡ every (suc R) (λ r. every 8 (λ c. is_there n (filter_no m a b r c)))
  four_all = same_test _ _ yes no

-- the test, as the code makes it
pub in_below : (n : ℕ) (z : ℤ) → lt_z z (pos 0) ≡ true → is_there n z ≡ false
unfolding is_there
in_below n (pos k) e = absurd (omega (arith, ltb-true k 0 e))
in_below n (negsuc k) e = refl

pub in_above : (n : ℕ) (z : ℤ) → lt_z z (pos 0) ≡ false → ltb (nat_abs z) n ≡ is_there n z
unfolding is_there
in_above n (pos k) e = refl
in_above n (negsuc k) e = nope (sym e)

-- two tests of order that say the same
pub same_lt : (a b c d : ℕ) → (a < b → c < d) → (c < d → a < b) → ltb a b ≡ ltb c d
same_lt a b c d f g = same_test (ltb a b) (ltb c d) (λ e. lt-ltb c d (f (ltb-true a b e))) (λ e. lt-ltb a b (g (ltb-true c d e)))
