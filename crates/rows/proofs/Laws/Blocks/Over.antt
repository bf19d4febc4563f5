-- Where a loop that changes a row in place stands: the first i elements of d are as f says, the others as they were in d₀.
-- Assumes nothing.
use Rattle.rows.proofs.Usual.{List, ◌≡◌, ◌∙◌, refl, ◌+◌, ◌≤◌, ◌<◌, ℕ, arith, length, get_or, set, row_of, Upto, upto_all, upto_none, upto_more}
use native.Mathlib.Nat.{le_refl}
use lib.Seq.{get_or-set_other}

module _ {A : Type 0} where
  pub record Over (z : A) (f : ℕ → A) (d₀ : List A) (i : ℕ) (d : List A) : Type 0 where
    pub done : Upto z f (length d₀) i d
    pub rest : (k : ℕ) → i ≤ k → get_or d k z ≡ get_or d₀ k z

  pub over_none : (z : A) (f : ℕ → A) (d : List A) → Over z f d 0 d
  over_none z f d = record { done = upto_none z f d; rest = λ k h. refl }

  -- the element that comes next, as it is read
  pub over_here : {z : A} {f : ℕ → A} {d₀ : List A} {i : ℕ} {d : List A} → Over z f d₀ i d → get_or d i z ≡ get_or d₀ i z
  over_here {i = i} p = p.rest i (le_refl i)

  pub over_more : {z : A} {f : ℕ → A} {d₀ : List A} {i : ℕ} {d : List A} {v : A} → Over z f d₀ i d → i < length d₀ → v ≡ f i
      → Over z f d₀ (i + 1) (set d i v)
  over_more {z} {f} {d₀} {i} {d} {v} p h e =
      record { done = upto_more p.done h e; rest = λ k b. get_or-set_other d i k v z (λ e. omega arith) ∙ p.rest k (omega arith) }

  pub over_all : {z : A} {f : ℕ → A} {d₀ : List A} {i : ℕ} {d : List A} → Over z f d₀ i d → length d₀ ≤ i → d ≡ row_of (length d₀) f
  over_all p h = upto_all p.done h
