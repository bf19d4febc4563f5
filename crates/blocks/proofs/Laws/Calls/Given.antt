-- When a call is given the number n: exactly where all its tests of lower numbers are met and one of n's isn't. So what is proved of the tests of one number
-- (of number 5: the files Places) is proved of the calls that get it. Assumes nothing.
use mathlib.Core.Path.{◌≡◌, refl, sym, ◌∙◌}
use mathlib.Core.Bool.{Bool, true, false, cond, ◌&&◌, true≢false}
use mathlib.Core.List.{List, [], ◌∷◌}
use Prim.Native.Nat.{ℕ, ◌≤◌, ◌<◌}
use native.Mathlib.Omega.{arith}
use borrow.Author.Tests.{leb-true, eq-eqb, ne_eqb}
use lib.Dec.{leb, eqb}
use Rattle.rows.proofs.Laws.Blocks.Places.{by-lt}
use Rattle.rows.proofs.Laws.Blocks.Fill.{and_true}
use Rattle.blocks.specs.Refuse.{Test, number_of, need, lowest, in_order}
use Rattle.blocks.proofs.Laws.Calls.Refuse.{all_met, met_all}

-- of a call's tests, those of number n are met
abbrev pub met : ℕ → List Test → Bool
met n [] = true
met n (t ∷ ts) = cond (eqb (number_of t.reason) n) (t.meets && met n ts) (met n ts)

-- 0 is given only where they are
pub done_met : (n : ℕ) (ts : List Test) → lowest ts ≡ 0 → met n ts ≡ true
done_met n [] e = refl
done_met n (t ∷ ts) e = let m = all_met (t ∷ ts) e in go (eqb (number_of t.reason) n) m.0 (done_met n ts (met_all ts m.1)) where
  go : (c : Bool) → t.meets ≡ true → met n ts ≡ true → cond c (t.meets && met n ts) (met n ts) ≡ true
  go true a b = rw (a, b) refl
  go false a b = b

-- and n is given only where one of them isn't
pub given_unmet : (n : ℕ) (ts : List Test) → 1 ≤ n → lowest ts ≡ n → met n ts ≡ false
unfolding need
given_unmet n [] h e = absurd (omega arith)
given_unmet n (t ∷ ts) h e = go t.meets e (given_unmet n ts h) where
  either : (c : Bool) → cond c false false ≡ false
  either true = refl
  either false = refl

  go : (b : Bool) → need b (number_of t.reason) (lowest ts) ≡ n → (lowest ts ≡ n → met n ts ≡ false)
      → cond (eqb (number_of t.reason) n) (b && met n ts) (met n ts) ≡ false
  go true e k = rw (k e) (either (eqb (number_of t.reason) n))
  go false e k = rw (eq-eqb (number_of t.reason) n e) refl

-- ---- the tests stand in the order of their numbers (Laws/Calls/InOrder, of each entry)
abbrev no : Test → ℕ
no t = number_of t.reason

other : (a b : ℕ) → b < a → eqb a b ≡ false
other a b h = ne_eqb a b (apart a b h) where
  apart : (a b : ℕ) → b < a → a ≡ b → ⊥
  apart a b h e = omega arith

-- none of a number below the first's
later_met : (n m : ℕ) (ts : List Test) → in_order m ts ≡ true → n < m → met n ts ≡ true
unfolding in_order
later_met n m [] o h = refl
later_met n m (t ∷ ts) o h =
    let p = and_true (leb m (no t)) (in_order (no t) ts) o in
    let l = leb-true m (no t) p.0 in
    rw (other (no t) n (omega arith)) (later_met n (no t) ts p.1 (omega arith))

-- where n is given, the tests of lower numbers are met
pub given_lower : (n k m : ℕ) (ts : List Test) → in_order m ts ≡ true → k < n → lowest ts ≡ n → met k ts ≡ true
unfolding in_order need
given_lower n k m [] o h e = refl
given_lower n k m (t ∷ ts) o h e =
    let p = and_true (leb m (no t)) (in_order (no t) ts) o in
    go t.meets e (given_lower n k (no t) ts p.1 h) (later_met k (no t) ts p.1) where
      either : (c b : Bool) → b ≡ true → cond c (true && b) b ≡ true
      either true b e = e
      either false b e = e

      go : (b : Bool) → need b (no t) (lowest ts) ≡ n → (lowest ts ≡ n → met k ts ≡ true) → (k < no t → met k ts ≡ true)
          → cond (eqb (no t) k) (b && met k ts) (met k ts) ≡ true
      go true e f g = either (eqb (no t) k) (met k ts) (f e)
      go false e f g = rw (other (no t) k (omega arith)) (g (omega arith))

-- and n is given where they are and one of its own isn't
pub unmet_given : (n m : ℕ) (ts : List Test) → in_order m ts ≡ true → ((k : ℕ) → k < n → met k ts ≡ true) → met n ts ≡ false → lowest ts ≡ n
unfolding in_order need
unmet_given n m [] o f e = absurd (true≢false e)
unmet_given n m (t ∷ ts) o f e =
    let p = and_true (leb m (no t)) (in_order (no t) ts) o in
    go t.meets f e (unmet_given n (no t) ts p.1) (later_met n (no t) ts p.1) where
      one : (c b v : Bool) → cond c (true && b) b ≡ v → b ≡ v
      one true b v e = e
      one false b v e = e

      go : (b : Bool) → ((k : ℕ) → k < n → cond (eqb (no t) k) (b && met k ts) (met k ts) ≡ true) → cond (eqb (no t) n) (b && met n ts) (met n ts) ≡ false
          → (((k : ℕ) → k < n → met k ts ≡ true) → met n ts ≡ false → lowest ts ≡ n) → (n < no t → met n ts ≡ true) → need b (no t) (lowest ts) ≡ n
      go true f e r l = r (λ k h. one (eqb (no t) k) (met k ts) true (f k h)) (one (eqb (no t) n) (met n ts) false e)
      go false f e r l =
          by-lt (no t) n (λ h. absurd (true≢false (sym (f (no t) h) ∙ rw (eq-eqb (no t) (no t) refl) refl)))
          (λ h. by-lt n (no t)
          (λ g. absurd (true≢false (sym (l g) ∙ (rw (other (no t) n g) at e))))
          (λ g. omega arith))
