-- avg, w_avg and mask, refusal number 5: the intermediates and the mask are accepted exactly where they hold each place of a block of w x h without gaps, and
-- the rules read these alone. Assumes nothing.
use mathlib.Core.Path.{◌≡◌, refl, ap₂, ◌∙◌}
use mathlib.Core.Bool.{Bool, true, ◌&&◌}
use mathlib.Core.List.{List}
use Prim.Native.Nat.{ℕ, ◌+◌, ◌*◌, ◌≤◌, ◌<◌}
use lib.IntN.{ℤ, pos}
use lib.ListN.{length, get_or}
use Rattle.rows.specs.Places.{pixel}
use Rattle.rows.specs.Combine.{masked, both}
use Rattle.rows.proofs.Laws.Blocks.Fill.{and_true}
use Rattle.blocks.specs.Refuse.{holds_all}
use Rattle.blocks.specs.Combine.{avg_tests, w_avg_tests, mask_tests}
use Rattle.blocks.proofs.Laws.Calls.Given.{met}
use Rattle.blocks.proofs.Laws.Loops.Places.{AllHeld, holds_all_lem, all_holds, inside_any}

-- w x h without gaps
abbrev pub AllOf : (l w h : ℕ) → Type 0
AllOf l w h = AllHeld l w w h

-- two buffers, and what a third must meet
pub two_inside : (l1 l2 w h : ℕ) (third : Bool) → holds_all l1 w h && (holds_all l2 w h && third) ≡ true → AllOf l1 w h × AllOf l2 w h × (third ≡ true)
two_inside l1 l2 w h third e =
    let a = and_true (holds_all l1 w h) (holds_all l2 w h && third) e in
    let b = and_true (holds_all l2 w h) third a.1 in
    (holds_all_lem l1 w w h a.0, holds_all_lem l2 w w h b.0, b.1)

pub inside_two : (l1 l2 w h : ℕ) (third : Bool) → 1 ≤ w → 1 ≤ h → AllOf l1 w h → AllOf l2 w h → third ≡ true
    → holds_all l1 w h && (holds_all l2 w h && third) ≡ true
inside_two l1 l2 w h third w1 h1 f g e = rw (all_holds l1 w w h w1 h1 f, all_holds l2 w w h w1 h1 g, e) refl

module _ (deep : Bool) (dl ds l1 l2 w h : ℕ) where
  pub avg-inside : met 5 (avg_tests deep dl ds l1 l2 w h) ≡ true → AllOf l1 w h × AllOf l2 w h
  avg-inside e = let p = two_inside l1 l2 w h true e in (p.0, p.1)

  pub inside-avg : 1 ≤ w → 1 ≤ h → AllOf l1 w h → AllOf l2 w h → met 5 (avg_tests deep dl ds l1 l2 w h) ≡ true
  inside-avg w1 h1 f g = inside_two l1 l2 w h true w1 h1 f g refl

  pub w-avg-inside : (weight : ℤ) → met 5 (w_avg_tests deep dl ds l1 l2 w h weight) ≡ true → AllOf l1 w h × AllOf l2 w h
  w-avg-inside weight e = let p = two_inside l1 l2 w h true e in (p.0, p.1)

  pub inside-w-avg : (weight : ℤ) → 1 ≤ w → 1 ≤ h → AllOf l1 w h → AllOf l2 w h → met 5 (w_avg_tests deep dl ds l1 l2 w h weight) ≡ true
  inside-w-avg weight w1 h1 f g = inside_two l1 l2 w h true w1 h1 f g refl

  pub mask-inside : (ml : ℕ) → met 5 (mask_tests deep dl ds l1 l2 w h ml) ≡ true → AllOf l1 w h × AllOf l2 w h × AllOf ml w h
  mask-inside ml e =
      let p = two_inside l1 l2 w h (holds_all ml w h && true) e in
      (p.0, p.1, holds_all_lem ml w w h (and_true (holds_all ml w h) true p.2).0)

  pub inside-mask : (ml : ℕ) → 1 ≤ w → 1 ≤ h → AllOf l1 w h → AllOf l2 w h → AllOf ml w h → met 5 (mask_tests deep dl ds l1 l2 w h ml) ≡ true
  inside-mask ml w1 h1 f g k =
      let e : holds_all ml w h && true ≡ true = rw (all_holds ml w w h w1 h1 k) refl in
      inside_two l1 l2 w h (holds_all ml w h && true) w1 h1 f g e

-- ---- whatever stands outside: d₁ and d₂ of the intermediates, n of the mask. Any rule of two intermediates, so avg's, w_avg's and w_mask's too
module _ {A : Type 0} (rule : ℤ → ℤ → A) (tmp1 tmp2 : List ℤ) (w h : ℕ) (f : AllOf (length tmp1) w h) (g : AllOf (length tmp2) w h) where
  pub both_stand : (d₁ d₂ : ℤ) (i j : ℕ) → i < w → j < h → both rule tmp1 tmp2 (j * w) i ≡ rule (get_or tmp1 (j * w + i) d₁) (get_or tmp2 (j * w + i) d₂)
  both_stand d₁ d₂ i j p q = ap₂ rule (inside_any tmp1 (j * w + i) (pos 0) d₁ (f i j p q)) (inside_any tmp2 (j * w + i) (pos 0) d₂ (g i j p q))

module _ (tmp1 tmp2 : List ℤ) (mask : List ℕ) (w h : ℕ) (f : AllOf (length tmp1) w h) (g : AllOf (length tmp2) w h) (k : AllOf (length mask) w h) where
  pub mask-stands : (M B P : ℕ) (d₁ d₂ : ℤ) (n i j : ℕ) → i < w → j < h → both (masked M B P (pixel mask w i j)) tmp1 tmp2 (j * w) i
      ≡ masked M B P (get_or mask (j * w + i) n) (get_or tmp1 (j * w + i) d₁) (get_or tmp2 (j * w + i) d₂)
  mask-stands M B P d₁ d₂ n i j p q =
      both_stand (masked M B P (pixel mask w i j)) tmp1 tmp2 w h f g d₁ d₂ i j p q
      ∙ rw (inside_any mask (j * w + i) 0 n (k i j p q)) refl
