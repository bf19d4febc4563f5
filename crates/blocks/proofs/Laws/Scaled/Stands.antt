-- Scaled blocks: the tests of number 5 are `reads_scaled`, of which Scaled/Places tells, and the rules read no place but those: an accepted call's pixel is the
-- rule on what stands there, whatever d z stands at a place z outside of the source. Assumes nothing.
use mathlib.Core.Path.{◌≡◌, refl, ap, ap₂}
use mathlib.Core.Logic.{inl, inr}
use mathlib.Core.Bool.{Bool, true, false}
use mathlib.Core.List.{List}
use Prim.Native.Nat.{ℕ, zero, suc, ◌+◌, ◌-◌, ◌*◌, ◌^◌, ◌≤◌, ◌<◌}
use native.Mathlib.Omega.{arith}
use lib.IntN.{ℤ, pos, ◌+ℤ◌}
use lib.ListN.{length}
use Rattle.rows.specs.Numbers.{up, clip, half, low16, minus16, ◌>>◌}
use Rattle.rows.specs.Subpel.{Axis, whole, by, family}
use Rattle.rows.specs.Bilinear.{bilin, R, along, bilin_mid}
use Rattle.rows.specs.Scaled.{pixel_of, sixteenth, in_family, scaled_mid, put_down, prep_down, put_scaled, prep_scaled, put_bilin_scaled, prep_bilin_scaled}
use Rattle.rows.proofs.Laws.Blocks.Fill.{and_true}
use Rattle.rows.proofs.Laws.Filters.Taps.{tapped_same}
use Rattle.blocks.specs.Scaled.{reads_scaled, scaled_tests, scaled_axis, scaled_around}
use Rattle.blocks.proofs.Laws.Calls.Given.{met}
use Rattle.blocks.proofs.Laws.Loops.Places.{standing, tap_at, tap_in, around-stands}
use Rattle.blocks.proofs.Laws.Subpel.Places.{AxisRead}
use Rattle.blocks.proofs.Laws.Scaled.Pairs.{position-le}
use Rattle.blocks.proofs.Laws.Scaled.Places.{last_row, column_at, TapFetched, AllInside, AllPairsInside, accepted_inside, inside_accepted, accepted_pairs, pairs_accepted}

-- ---- the call's tests of number 5
module _ (deep typed tabled : Bool) (dl ds sl o s w h : ℕ) (mx my dx dy : ℤ) where
  pub scaled_inside : met 5 (scaled_tests true deep typed tabled dl ds sl o s w h mx my dx dy) ≡ true → AllInside sl o s w h mx my dx dy
  scaled_inside e = accepted_inside sl o s w h mx my dx dy (and_true (reads_scaled true sl o s w h mx my dx dy) true e).0

  pub inside_scaled : AllInside sl o s w h mx my dx dy → met 5 (scaled_tests true deep typed tabled dl ds sl o s w h mx my dx dy) ≡ true
  inside_scaled f = rw (inside_accepted sl o s w h mx my dx dy f) refl

  pub pairs_inside : met 5 (scaled_tests false deep typed tabled dl ds sl o s w h mx my dx dy) ≡ true → AllPairsInside sl o s w h mx my dx dy
  pairs_inside e = accepted_pairs sl o s w h mx my dx dy (and_true (reads_scaled false sl o s w h mx my dx dy) true e).0

  pub inside_pairs : AllPairsInside sl o s w h mx my dx dy → met 5 (scaled_tests false deep typed tabled dl ds sl o s w h mx my dx dy) ≡ true
  inside_pairs f = rw (pairs_accepted sl o s w h mx my dx dy f) refl

-- ---- 8-tap: what the rules read
family_taps : (subpel : List ℤ) (n fraction t : ℕ) → AxisRead (in_family subpel n fraction) t → TapFetched fraction t
unfolding in_family
family_taps subpel n zero t r = inl r
family_taps subpel n (suc f) t r = inr (omega arith, omega arith)

eight : (f : Axis) (t : ℕ) → AxisRead f t → t ≤ 7
eight whole t r = omega arith
eight (by f) t r = omega arith

mid_taps : (B : ℕ) (f : Axis) (x y : ℕ → ℕ) → ((a : ℕ) → AxisRead f a → x a ≡ y a) → scaled_mid B f x ≡ scaled_mid B f y
unfolding scaled_mid
mid_taps B whole x y e = ap (λ (v : ℕ). low16 (pos (v * 2 ^ B))) (e 3 refl)
mid_taps B (by f) x y e = ap low16 (tapped_same f _ (6 - B) _ _ λ a k. ap pos (e a k))

put_taps : (M B : ℕ) (g : Axis) (m n : ℕ → ℤ) → ((b : ℕ) → AxisRead g b → m b ≡ n b) → put_down M B g m ≡ put_down M B g n
unfolding put_down
put_taps M B whole m n e = ap (λ (v : ℤ). clip M (v +ℤ pos (half B) >> B)) (e 3 refl)
put_taps M B (by g) m n e = ap (clip M) (tapped_same g _ (6 + B) _ _ e)

prep_taps : (P : ℕ) (g : Axis) (m n : ℕ → ℤ) → ((b : ℕ) → AxisRead g b → m b ≡ n b) → prep_down P g m ≡ prep_down P g n
unfolding prep_down
prep_taps P whole m n e = ap (λ (v : ℤ). minus16 v (pos P)) (e 3 refl)
prep_taps P (by g) m n e = ap (λ (v : ℤ). minus16 (low16 v) (pos P)) (tapped_same g _ 6 _ _ e)

-- what stands around the pixel that column i of row j is in
abbrev pub scaled_standing : (d : ℤ → ℕ) (m : ℕ) (src : List ℕ) (o s : ℕ) (mx my dx dy : ℤ) (i j : ℕ) → ℕ → ℕ → ℕ
scaled_standing d m src o s mx my dx dy i j a b = standing d src (tap_at m o s (pixel_of (column_at mx dx i)) (pixel_of (column_at my dy j)) a b)

-- a row of the block is in no later row than its last
row-most : (my dy : ℤ) (h j : ℕ) → j < h → pixel_of (column_at my dy j) ≤ last_row my dy h
row-most my dy h j q = omega (arith, position-le (up my) (up dy) {x = j} {y = h - 1} (omega arith))

module _ (src : List ℕ) (o s w h : ℕ) (mx my dx dy : ℤ) (all : AllInside (length src) o s w h mx my dx dy)
    (type : ℤ) (subpel : List ℤ) (d : ℤ → ℕ) (i j : ℕ) (p : i < w) (q : j < h) where
  same : (a b : ℕ) → AxisRead (scaled_axis subpel type mx dx w i) a → AxisRead (scaled_axis subpel type my dy h j) b
      → scaled_around 3 src o s mx my dx dy i j a b ≡ scaled_standing d 3 src o s mx my dx dy i j a b
  unfolding scaled_axis
  same a b u v =
      let x = column_at mx dx i in
      let y = pixel_of (column_at my dy j) in
      let r = row-most my dy h j q in
      let k = eight (in_family subpel (family (up type) h) (sixteenth (column_at my dy j))) b v in
      let t = all i (y + b) a p (omega arith) (family_taps subpel (family (up type) w) (sixteenth x) a u) in
      around-stands 3 o s (pixel_of x) y a b d src (tap_in 3 o s (pixel_of x) y a b (length src) t.low t.high)

  pub put-stands : (M B : ℕ) → put_scaled M B (scaled_axis subpel type mx dx w i) (scaled_axis subpel type my dy h j) (scaled_around 3 src o s mx my dx dy i j)
      ≡ put_scaled M B (scaled_axis subpel type mx dx w i) (scaled_axis subpel type my dy h j) (scaled_standing d 3 src o s mx my dx dy i j)
  unfolding put_scaled
  put-stands M B = put_taps M B (scaled_axis subpel type my dy h j) _ _ λ b v. mid_taps B (scaled_axis subpel type mx dx w i) _ _ λ a u. same a b u v

  pub prep-stands : (B P : ℕ) → prep_scaled B P (scaled_axis subpel type mx dx w i) (scaled_axis subpel type my dy h j) (scaled_around 3 src o s mx my dx dy i j)
      ≡ prep_scaled B P (scaled_axis subpel type mx dx w i) (scaled_axis subpel type my dy h j) (scaled_standing d 3 src o s mx my dx dy i j)
  unfolding prep_scaled
  prep-stands B P = prep_taps P (scaled_axis subpel type my dy h j) _ _ λ b v. mid_taps B (scaled_axis subpel type mx dx w i) _ _ λ a u. same a b u v

-- ---- bilinear: the pixel and the next, in its row and the next
both_same : (B f g : ℕ) (x y : ℕ → ℕ → ℕ) → ((a b : ℕ) → a ≤ 1 → b ≤ 1 → x a b ≡ y a b)
    → bilin (bilin_mid B f x 0) (bilin_mid B f x 1) g ≡ bilin (bilin_mid B f y 0) (bilin_mid B f y 1) g
unfolding bilin_mid along
both_same B f g x y e =
    let row : (b : ℕ) → b ≤ 1 → low16 (R (4 - B) (bilin (pos (x 0 b)) (pos (x 1 b)) f)) ≡ low16 (R (4 - B) (bilin (pos (y 0 b)) (pos (y 1 b)) f)) =
    λ b k. ap₂ (λ (u v : ℕ). low16 (R (4 - B) (bilin (pos u) (pos v) f))) (e 0 b (omega arith) k) (e 1 b (omega arith) k) in
    ap₂ (λ (u v : ℤ). bilin u v g) (row 0 (omega arith)) (row 1 (omega arith))

module _ (src : List ℕ) (o s w h : ℕ) (mx my dx dy : ℤ) (all : AllPairsInside (length src) o s w h mx my dx dy)
    (d : ℤ → ℕ) (i j : ℕ) (p : i < w) (q : j < h) where
  pairs_same : (a b : ℕ) → a ≤ 1 → b ≤ 1 → scaled_around 0 src o s mx my dx dy i j a b ≡ scaled_standing d 0 src o s mx my dx dy i j a b
  pairs_same a b u v =
      let x = pixel_of (column_at mx dx i) in
      let y = pixel_of (column_at my dy j) in
      let r = row-most my dy h j q in
      let t = all i (y + b) a p (omega arith) u in
      around-stands 0 o s x y a b d src (tap_in 0 o s x y a b (length src) (omega arith) (omega arith))

  pub put_pairs_stand : (M B f g : ℕ) → put_bilin_scaled M B f g (scaled_around 0 src o s mx my dx dy i j)
      ≡ put_bilin_scaled M B f g (scaled_standing d 0 src o s mx my dx dy i j)
  unfolding put_bilin_scaled
  put_pairs_stand M B f g = ap (λ (v : ℤ). clip M (R (4 + B) v)) (both_same B f g _ _ pairs_same)

  pub prep_pairs_stand : (B P f g : ℕ) → prep_bilin_scaled B P f g (scaled_around 0 src o s mx my dx dy i j)
      ≡ prep_bilin_scaled B P f g (scaled_standing d 0 src o s mx my dx dy i j)
  unfolding prep_bilin_scaled
  prep_pairs_stand B P f g = ap (λ (v : ℤ). minus16 (low16 (R 4 v)) (pos P)) (both_same B f g _ _ pairs_same)
