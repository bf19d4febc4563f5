-- blend, refusal number 5: tmp and the mask are accepted exactly where they hold each place of a block of w x h without gaps, and the rule reads these alone.
-- Of dst, which is written too, number 6 speaks. Assumes nothing.
use mathlib.Core.Path.{◌≡◌, refl, ap₂}
use mathlib.Core.Bool.{true}
use mathlib.Core.List.{List}
use Prim.Native.Nat.{ℕ, ◌+◌, ◌*◌, ◌≤◌, ◌<◌}
use lib.ListN.{length, get_or}
use Rattle.rows.specs.Places.{pixel}
use Rattle.rows.specs.Combine.{blend}
use Rattle.blocks.specs.Blend.{blend_tests}
use Rattle.blocks.proofs.Laws.Calls.Given.{met}
use Rattle.blocks.proofs.Laws.Loops.Places.{inside_any}
use Rattle.blocks.proofs.Laws.Combine.Places.{AllOf, two_inside, inside_two}

module _ (dl ds tl w h : ℕ) (mask : List ℕ) where
  pub blend-inside : met 5 (blend_tests dl ds tl w h mask) ≡ true → AllOf tl w h × AllOf (length mask) w h
  blend-inside e = let p = two_inside tl (length mask) w h true e in (p.0, p.1)

  pub inside-blend : 1 ≤ w → 1 ≤ h → AllOf tl w h → AllOf (length mask) w h → met 5 (blend_tests dl ds tl w h mask) ≡ true
  inside-blend w1 h1 f g = inside_two tl (length mask) w h true w1 h1 f g refl

-- whatever d stands outside of tmp, and n outside of the mask; t is dst's pixel
module _ (tmp mask : List ℕ) (w h : ℕ) (f : AllOf (length tmp) w h) (g : AllOf (length mask) w h) where
  pub blend-stands : (d n t i j : ℕ) → i < w → j < h → blend (pixel mask w i j) t (pixel tmp w i j) ≡ blend (get_or mask (j * w + i) n) t (get_or tmp (j * w + i) d)
  blend-stands d n t i j p q = ap₂ (λ (m v : ℕ). blend m t v) (inside_any mask (j * w + i) 0 n (g i j p q)) (inside_any tmp (j * w + i) 0 d (f i j p q))
