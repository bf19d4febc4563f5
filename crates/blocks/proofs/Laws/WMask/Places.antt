-- w_mask, refusal number 5: the two intermediates are accepted exactly where they hold each place of a block of w x h without gaps, and the rules of the pixel
-- and of the mask read these alone. Of the mask's own places, which are written, number 6 speaks. Assumes nothing.
use mathlib.Core.Path.{◌≡◌, refl, ap, ap₂}
use mathlib.Core.Bool.{Bool, true, false}
use mathlib.Core.List.{List}
use Prim.Native.Nat.{ℕ, ◌+◌, ◌*◌, ◌≤◌, ◌<◌}
use native.Mathlib.Omega.{arith}
use lib.IntN.{ℤ}
use lib.ListN.{length, get_or}
use Rattle.rows.specs.Depth.{bits_of}
use Rattle.rows.specs.Combine.{masked, both}
use Rattle.rows.specs.WMask.{weight_of, pair_of, four_of, mask_at}
use Rattle.blocks.specs.WMask.{w_mask_tests, mask_side, weights}
use Rattle.blocks.proofs.Laws.Calls.Given.{met}
use Rattle.blocks.proofs.Laws.Combine.Places.{AllOf, two_inside, inside_two, both_stand}

module _ (deep : Bool) (dl ds l1 l2 w h ml ms : ℕ) (sign : ℤ) (ssHor ssVer : Bool) where
  pub w-mask-inside : met 5 (w_mask_tests deep dl ds l1 l2 w h ml ms sign ssHor ssVer) ≡ true → AllOf l1 w h × AllOf l2 w h
  w-mask-inside e = let p = two_inside l1 l2 w h true e in (p.0, p.1)

  pub inside-w-mask : 1 ≤ w → 1 ≤ h → AllOf l1 w h → AllOf l2 w h → met 5 (w_mask_tests deep dl ds l1 l2 w h ml ms sign ssHor ssVer) ≡ true
  inside-w-mask w1 h1 f g = inside_two l1 l2 w h true w1 h1 f g refl

-- whatever stands outside of the intermediates: d k at place k of the one, e k of the other
abbrev pub weights_or : (d e : ℕ → ℤ) (depth w : ℕ) (tmp1 tmp2 : List ℤ) → ℕ → ℕ → ℕ
weights_or d e depth w tmp1 tmp2 i j = weight_of depth (bits_of depth) (get_or tmp1 (j * w + i) (d (j * w + i))) (get_or tmp2 (j * w + i) (e (j * w + i)))

module _ (depth w h : ℕ) (tmp1 tmp2 : List ℤ) (f : AllOf (length tmp1) w h) (g : AllOf (length tmp2) w h) (d e : ℕ → ℤ) where
  pub pixel-stands : (M B P i j : ℕ) → i < w → j < h → both (masked M B P (weights depth w tmp1 tmp2 i j)) tmp1 tmp2 (j * w) i
      ≡ masked M B P (weights_or d e depth w tmp1 tmp2 i j) (get_or tmp1 (j * w + i) (d (j * w + i))) (get_or tmp2 (j * w + i) (e (j * w + i)))
  pixel-stands M B P i j p q = both_stand (λ a b. masked M B P (weight_of depth (bits_of depth) a b) a b) tmp1 tmp2 w h f g _ _ i j p q

  weight_stands : (i j : ℕ) → i < w → j < h → weights depth w tmp1 tmp2 i j ≡ weights_or d e depth w tmp1 tmp2 i j
  weight_stands i j p q = both_stand (weight_of depth (bits_of depth)) tmp1 tmp2 w h f g _ _ i j p q

  -- of the mask's column i and row j
  pub kept_stands : (sign : ℕ) (ssHor ssVer : Bool) (i j : ℕ) → i < mask_side ssHor w → j < mask_side ssVer h
      → mask_at sign ssHor ssVer (weights depth w tmp1 tmp2) i j ≡ mask_at sign ssHor ssVer (weights_or d e depth w tmp1 tmp2) i j
  unfolding mask_at
  kept_stands sign false false i j p q = weight_stands i j p q
  kept_stands sign false true i j p q = weight_stands i j p (omega arith)
  kept_stands sign true false i j p q =
      ap₂ (pair_of sign) (weight_stands (2 * i) j (omega arith) q) (weight_stands (2 * i + 1) j (omega arith) q)
  kept_stands sign true true i j p q =
      ap (four_of sign)
      (ap₂ (λ (u v : ℕ). u + v)
      (ap₂ (λ (u v : ℕ). u + v)
      (ap₂ (λ (u v : ℕ). u + v) (weight_stands (2 * i) (2 * j) (omega arith) (omega arith)) (weight_stands (2 * i + 1) (2 * j) (omega arith) (omega arith)))
      (weight_stands (2 * i) (2 * j + 1) (omega arith) (omega arith)))
      (weight_stands (2 * i + 1) (2 * j + 1) (omega arith) (omega arith)))
