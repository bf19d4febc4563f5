-- Where a loop that writes a row from the front stands: the first i of the n elements of d are as f says.
-- Assumes nothing.
use mathlib.Core.Path.{◌≡◌, refl, ◌∙◌}
use mathlib.Core.List.{List}
use Prim.Native.Nat.{ℕ, ◌+◌, ◌≤◌, ◌<◌}
use native.Mathlib.Nat.{not-suc-le-zero}
use native.Mathlib.Omega.{arith}
use borrow.Author.Rules.{rules}
use lib.ListN.{length, get_or, set, length-set}
use Rattle.rows.specs.Places.{row_of}
use Rattle.rows.proofs.Laws.Blocks.Places.{row_more, row_done, row_same}

module _ {A : Type 0} where
  pub record Upto (z : A) (f : ℕ → A) (n i : ℕ) (d : List A) : Type 0 where
    pub le : i ≤ n
    pub len : length d ≡ n
    pub same : (k : ℕ) → k < i → get_or d k z ≡ f k

  pub upto_none : (z : A) (f : ℕ → A) (d : List A) → Upto z f (length d) 0 d
  upto_none z f d = record { le = omega arith; len = refl; same = λ k h. absurd (not-suc-le-zero h) }

  pub upto_more : {z : A} {f : ℕ → A} {n i : ℕ} {d : List A} {v : A} → Upto z f n i d → i < n → v ≡ f i → Upto z f n (i + 1) (set d i v)
  upto_more {z} {f} {n} {i} {d} {v} p h e =
      record { le = omega arith; len = length-set d i v ∙ p.len; same = row_more z f d i v (omega (arith, p)) e p.same }

  pub upto_all : {z : A} {f : ℕ → A} {n i : ℕ} {d : List A} → Upto z f n i d → n ≤ i → d ≡ row_of n f
  upto_all {z} {f} {n} {i} {d} p h = row_done z n f d p.len λ k b. p.same k (omega arith)

  -- what the first loop wrote to l, a second one copied to d
  pub upto_through :
      {z : A} {f : ℕ → A} {m n i j : ℕ} {l d : List A} → Upto z f m i l → n ≤ i → Upto z (λ k. get_or l k z) n j d → n ≤ j → d ≡ row_of n f
  upto_through {z} {f} {m} {n} {i} {j} {l} {d} p h q g = upto_all q g ∙ row_same z n (λ k. get_or l k z) f λ k b. p.same k (omega arith)

pub ruleset row-loop = (upto_none, upto_more, upto_all, upto_through, rules)
