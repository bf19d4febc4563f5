-- put and prep, refusal number 5: a source is accepted exactly where it holds each pixel of the block, and the rules read these alone. Assumes nothing.
use mathlib.Core.Path.{◌≡◌, refl, ap}
use mathlib.Core.Bool.{Bool, true}
use mathlib.Core.List.{List}
use Prim.Native.Nat.{ℕ, ◌+◌, ◌*◌, ◌≤◌, ◌<◌}
use lib.ListN.{length, get_or}
use Rattle.rows.specs.Places.{pixel}
use Rattle.rows.specs.Copy.{put, prep}
use Rattle.rows.proofs.Laws.Blocks.Fill.{and_true}
use Rattle.blocks.specs.Refuse.{holds}
use Rattle.blocks.specs.Copy.{put_tests, prep_tests}
use Rattle.blocks.proofs.Laws.Calls.Given.{met}
use Rattle.blocks.proofs.Laws.Loops.Places.{AllHeld, holds_all_lem, all_holds, inside_any}

module _ (dl ds sl s w h : ℕ) where
  pub put-inside : met 5 (put_tests dl ds sl s w h) ≡ true → AllHeld sl s w h
  put-inside e = holds_all_lem sl s w h (and_true (holds sl s w h) true e).0

  pub inside-put : 1 ≤ w → 1 ≤ h → AllHeld sl s w h → met 5 (put_tests dl ds sl s w h) ≡ true
  inside-put w1 h1 f = rw (all_holds sl s w h w1 h1 f) refl

module _ (deep : Bool) (tl ts sl s w h : ℕ) where
  pub prep-inside : met 5 (prep_tests deep tl ts sl s w h) ≡ true → AllHeld sl s w h
  prep-inside e = holds_all_lem sl s w h (and_true (holds sl s w h) true e).0

  pub inside-prep : 1 ≤ w → 1 ≤ h → AllHeld sl s w h → met 5 (prep_tests deep tl ts sl s w h) ≡ true
  inside-prep w1 h1 f = rw (all_holds sl s w h w1 h1 f) refl

-- whatever d stands outside of the source
module _ (src : List ℕ) (s w h : ℕ) (all : AllHeld (length src) s w h) (d i j : ℕ) (p : i < w) (q : j < h) where
  pub put-stands : put (pixel src s i j) ≡ put (get_or src (j * s + i) d)
  put-stands = ap put (inside_any src (j * s + i) 0 d (all i j p q))

  pub prep-stands : (B P : ℕ) → prep B P (pixel src s i j) ≡ prep B P (get_or src (j * s + i) d)
  prep-stands B P = ap (prep B P) (inside_any src (j * s + i) 0 d (all i j p q))
