-- 8-tap, refusal number 5: a source of sl places is accepted exactly where it holds the place of each tap of each pixel of the block, and the pixel's rule
-- reads these places and no other. Place o is the block's first pixel. Assumes nothing.
use mathlib.Core.Path.{◌≡◌, refl, ap}
use mathlib.Core.Logic.{◌⊎◌, inl, inr, ⊎_elim}
use mathlib.Core.Bool.{Bool, true}
use mathlib.Core.List.{List}
use Prim.Native.Nat.{ℕ, zero, suc, ◌+◌, ◌-◌, ◌*◌, ◌≤◌, ◌<◌}
use native.Mathlib.Omega.{arith}
use lib.IntN.{ℤ, pos, negsuc}
use lib.ListN.{length}
use Rattle.rows.specs.Numbers.{up, clip, low16, minus16}
use Rattle.rows.specs.Places.{around}
use Rattle.rows.specs.Copy.{prep}
use Rattle.rows.specs.Subpel.{Axis, whole, by, axis, mid, put8, prep8}
use Rattle.rows.proofs.Laws.Blocks.Places.{by-lt}
use Rattle.rows.proofs.Laws.Blocks.Fill.{and_true}
use Rattle.rows.proofs.Laws.Filters.Taps.{tapped_same}
use Rattle.blocks.specs.Refuse.{reads}
use Rattle.blocks.specs.Subpel.{on, subpel_tests, put8_rule, prep8_rule}
use Rattle.blocks.proofs.Laws.Calls.Given.{met}
use Rattle.blocks.proofs.Laws.Loops.Places.{InBuffer, standing, tap_at, around-stands, reads_range, range_reads}

-- tap t stands at t - 3: the pixel itself is read, and all eight, -3 to 4, where the fraction isn't 0
abbrev pub TapRead : (fraction : ℕ) (t : ℕ) → Type 0
TapRead fraction t = (t ≡ 3) ⊎ ((1 ≤ fraction) × (t ≤ 7))

-- column i, row j, and the taps a across and b down
abbrev pub AllInside : (sl o s w h : ℕ) (mx my : ℤ) → Type 0
AllInside sl o s w h mx my = (i j a b : ℕ) → i < w → j < h → TapRead (up mx) a → TapRead (up my) b → InBuffer sl (tap_at 3 o s i j a b)

-- the test's range on an axis is its taps
tap_range : (f : ℤ) (t : ℕ) → TapRead (up f) t → (3 ≤ t + 3 * on f) × (t ≤ 3 + 4 * on f)
tap_range f t r = ⊎_elim (λ e. (omega arith, omega arith)) (λ p. (omega arith, omega arith)) r

range_tap : (f : ℤ) (t : ℕ) → (3 ≤ t + 3 * on f) × (t ≤ 3 + 4 * on f) → TapRead (up f) t
range_tap f t r = by-lt 0 (up f) (λ p. inr (p, omega arith)) λ p. inl (omega arith)

module _ (deep : Bool) (dl ds sl o s w h : ℕ) (mx my type : ℤ) (tl el : ℕ) where
  pub accepted_inside : met 5 (subpel_tests deep dl ds sl o s w h mx my type tl el) ≡ true → AllInside sl o s w h mx my
  accepted_inside e i j a b p q u v =
      let r = and_true (reads sl o s w h (3 * on mx) (4 * on mx) (3 * on my) (4 * on my)) true e in
      reads_range 3 sl o s w h (3 * on mx) (4 * on mx) (3 * on my) (4 * on my) r.0 i j a b p q (tap_range mx a u) (tap_range my b v)

  pub inside_accepted : 1 ≤ w → 1 ≤ h → AllInside sl o s w h mx my → met 5 (subpel_tests deep dl ds sl o s w h mx my type tl el) ≡ true
  inside_accepted w1 h1 f =
      let e = range_reads 3 sl o s w h (3 * on mx) (4 * on mx) (3 * on my) (4 * on my) w1 h1 (omega arith) (omega arith)
      (λ i j a b p q u v. f i j a b p q (range_tap mx a u) (range_tap my b v)) in
      rw e refl

-- ---- the rules read no other: pictures that agree at the taps of both axes give the same pixel
abbrev pub AxisRead : Axis → ℕ → Type 0
AxisRead whole t = t ≡ 3
AxisRead (by f) t = t < 8

axis_taps : (subpel ext : List ℤ) (type : ℤ) (fraction side t : ℕ) → AxisRead (axis subpel ext type fraction side) t → TapRead fraction t
unfolding axis
axis_taps subpel ext type zero side t r = inl r
axis_taps subpel ext (pos n) (suc f) side t r = inr (omega arith, omega arith)
axis_taps subpel ext (negsuc n) (suc f) side t r = inr (omega arith, omega arith)

module _ (q p : ℕ → ℕ → ℕ) where
  abbrev Agree : (f g : Axis) → Type 0
  Agree f g = (a b : ℕ) → AxisRead f a → AxisRead g b → q a b ≡ p a b

  put8_taps : (M B N : ℕ) (f g : Axis) → Agree f g → put8 M B N f g q ≡ put8 M B N f g p
  unfolding put8 mid
  put8_taps M B N whole whole e = e 3 3 refl refl
  put8_taps M B N (by f) whole e = ap (clip M) (tapped_same f _ N _ _ λ a k. ap pos (e a 3 k refl))
  put8_taps M B N whole (by g) e = ap (clip M) (tapped_same g _ N _ _ λ b k. ap pos (e 3 b refl k))
  put8_taps M B N (by f) (by g) e =
      ap (clip M) (tapped_same g _ (N + B) _ _ λ b k. ap low16 (tapped_same f _ (N - B) _ _ λ a l. ap pos (e a b l k)))

  prep8_taps : (B P N : ℕ) (f g : Axis) → Agree f g → prep8 B P N f g q ≡ prep8 B P N f g p
  unfolding prep8 mid
  prep8_taps B P N whole whole e = ap (prep B P) (e 3 3 refl refl)
  prep8_taps B P N (by f) whole e = ap (λ (v : ℤ). minus16 (low16 v) (pos P)) (tapped_same f _ (N - B) _ _ λ a k. ap pos (e a 3 k refl))
  prep8_taps B P N whole (by g) e = ap (λ (v : ℤ). minus16 (low16 v) (pos P)) (tapped_same g _ (N - B) _ _ λ b k. ap pos (e 3 b refl k))
  prep8_taps B P N (by f) (by g) e =
      ap (λ (v : ℤ). minus16 (low16 v) (pos P)) (tapped_same g _ N _ _ λ b k. ap low16 (tapped_same f _ (N - B) _ _ λ a l. ap pos (e a b l k)))

-- so an accepted call's pixel is the rule on what stands at these places, whatever d stands outside of the source
module _ (src : List ℕ) (o s w h : ℕ) (mx my : ℤ) (all : AllInside (length src) o s w h mx my)
    (type : ℤ) (subpel ext : List ℤ) (d : ℤ → ℕ) (i j : ℕ) (p : i < w) (q : j < h) where
  same : Agree (around 3 src o s i j) (λ a b. standing d src (tap_at 3 o s i j a b)) (axis subpel ext type (up mx) w) (axis subpel ext type (up my) h)
  same a b u v = around-stands 3 o s i j a b d src (all i j a b p q (axis_taps subpel ext type (up mx) w a u) (axis_taps subpel ext type (up my) h b v))

  pub put-stands : (M B : ℕ) → put8_rule M B subpel ext mx my type w h (around 3 src o s i j)
      ≡ put8_rule M B subpel ext mx my type w h (λ a b. standing d src (tap_at 3 o s i j a b))
  unfolding put8_rule
  put-stands M B = put8_taps _ _ M B _ _ _ same

  pub prep-stands : (B P : ℕ) → prep8_rule B P subpel ext mx my type w h (around 3 src o s i j)
      ≡ prep8_rule B P subpel ext mx my type w h (λ a b. standing d src (tap_at 3 o s i j a b))
  unfolding prep8_rule
  prep-stands B P = prep8_taps _ _ B P _ _ _ same
