-- A row of k to 2k pixels, written as its first k and its last k. Assumes nothing.
use Rattle.rows.proofs.Usual.{List, ◌≡◌, ◌∙◌, ap, subst, ◌-◌, ◌+◌, ◌*◌, ◌≤◌, ◌<◌, ℕ, arith, length, get_or, length-take-le, span, splice, row_of, by-lt}
use Rattle.rows.proofs.Usual.{span-length}
use mathlib.Core.List.{◌++◌}
use lib.ListN.{take, drop, length-append, length-drop, get_or-append}
use Rattle.rows.proofs.Laws.Blocks.Places.{splice-length, splice-before, splice_in, row-length, row-at, row_done}

-- d becomes the pixels from place o of src on
pub record Ends (src : List ℕ) (o : ℕ) (d : List ℕ) (k : ℕ) : Type 0 where
  pub least : k ≤ length d
  pub most : length d ≤ 2 * k

module _ {src : List ℕ} {o : ℕ} {d : List ℕ} {k : ℕ} (p : Ends src o d k) where
  pub first-length : length (take k d) ≡ k
  first-length = length-take-le k d p.least

  abbrev rest : ℕ
  rest = length d - k

  module _ {r₁ : List ℕ} (is₁ : r₁ ≡ row_of (length (take k d)) (λ i. get_or src (o + i) 0)) where
    abbrev d₁ : List ℕ
    d₁ = r₁ ++ drop k d

    l₁ : length r₁ ≡ k
    l₁ = row-length _ _ is₁ ∙ first-length

    length-first : length d₁ ≡ length d
    length-first = simp (length-append, length-drop) (omega (arith, p, l₁))

    pub last_in : rest ≤ length d₁
    last_in = omega (arith, length-first)

    pub last-length : length (span d₁ rest (length d₁)) ≡ k
    last-length = span-length 0 d₁ rest (length d₁) (omega arith) ∙ omega (arith, p, length-first)

    module _ {r₂ : List ℕ} (is₂ : r₂ ≡ row_of (length (span d₁ rest (length d₁))) (λ i. get_or src (o + rest + i) 0)) where
      l₂ : rest + length r₂ ≡ length d₁
      l₂ = let q : length r₂ ≡ k = row-length _ _ is₂ ∙ last-length in omega (arith, p, length-first, q)

      abbrev d₂ : List ℕ
      d₂ = splice d₁ rest (length d₁) r₂

      abbrev Is : ℕ → Type 0
      Is i = get_or d₂ i 0 ≡ get_or src (o + i) 0

      head : (i : ℕ) → i < rest → Is i
      head i h =
          splice-before 0 d₁ rest (length d₁) r₂ l₂ (omega arith) i h
          ∙ get_or-append r₁ (drop k d) 0 i (omega (arith, p, l₁))
          ∙ row-at 0 _ _ is₁ i (omega (arith, p, l₁))

      end : (i : ℕ) → rest + i < length d → Is (rest + i)
      end i h =
          splice_in 0 d₁ rest (length d₁) r₂ l₂ (omega arith) i (omega (arith, length-first))
          ∙ row-at 0 _ _ is₂ i (omega (arith, l₂, length-first))
          ∙ ap (λ (n : ℕ). get_or src n 0) (omega arith)

      pub ends_row : d₂ ≡ row_of (length d) (λ i. get_or src (o + i) 0)
      ends_row =
          row_done 0 (length d) (λ i. get_or src (o + i) 0) d₂ (splice-length 0 d₁ rest (length d₁) r₂ l₂ (omega arith) ∙ length-first)
          λ i h. by-lt i rest (λ b. head i b) λ b. let q : rest + (i - rest) ≡ i = omega arith in subst Is q (end (i - rest) (omega arith))
