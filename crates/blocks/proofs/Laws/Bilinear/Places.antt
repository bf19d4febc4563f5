-- Bilinear, refusal number 5: a source of sl places is accepted exactly where it holds, of each pixel of the block, the pixel itself and the next on each axis
-- that has a fraction; and the rules read these alone. Assumes nothing.
use mathlib.Core.Path.{◌≡◌, refl, ap, ap₂}
use mathlib.Core.Logic.{◌⊎◌, inl, inr, ⊎_elim}
use mathlib.Core.Bool.{Bool, true}
use mathlib.Core.List.{List}
use Prim.Native.Nat.{ℕ, zero, suc, ◌+◌, ◌-◌, ◌^◌, ◌≤◌, ◌<◌}
use native.Mathlib.Omega.{arith}
use lib.IntN.{ℤ, pos, ◌+ℤ◌}
use lib.ListN.{length}
use Rattle.rows.specs.Numbers.{up, clip, low16, minus16, ◌>>◌}
use Rattle.rows.specs.Places.{around}
use Rattle.rows.specs.Copy.{prep}
use Rattle.rows.specs.Bilinear.{bilin, R, along, down, bilin_mid, put_bilin, prep_bilin}
use Rattle.rows.proofs.Laws.Blocks.Places.{by-lt}
use Rattle.rows.proofs.Laws.Blocks.Fill.{and_true}
use Rattle.blocks.specs.Refuse.{reads}
use Rattle.blocks.specs.Subpel.{on}
use Rattle.blocks.specs.Bilinear.{bilin_tests}
use Rattle.blocks.proofs.Laws.Calls.Given.{met}
use Rattle.blocks.proofs.Laws.Loops.Places.{InBuffer, standing, tap_at, around-stands, reads_range, range_reads}

-- 0 is the pixel itself, 1 the next
abbrev pub PairRead : (fraction t : ℕ) → Type 0
PairRead fraction t = (t ≡ 0) ⊎ ((1 ≤ fraction) × (t ≤ 1))

abbrev pub AllInside : (sl s w h : ℕ) (mx my : ℤ) → Type 0
AllInside sl s w h mx my = (i j a b : ℕ) → i < w → j < h → PairRead (up mx) a → PairRead (up my) b → InBuffer sl (tap_at 0 0 s i j a b)

pair_range : (f : ℤ) (t : ℕ) → PairRead (up f) t → (0 ≤ t + 0) × (t ≤ 0 + on f)
pair_range f t r = ⊎_elim (λ e. (omega arith, omega arith)) (λ p. (omega arith, omega arith)) r

range_pair : (f : ℤ) (t : ℕ) → (0 ≤ t + 0) × (t ≤ 0 + on f) → PairRead (up f) t
range_pair f t r = by-lt 0 (up f) (λ p. inr (p, omega arith)) λ p. inl (omega arith)

module _ (deep : Bool) (dl ds sl s w h : ℕ) (mx my : ℤ) where
  pub accepted_inside : met 5 (bilin_tests deep dl ds sl s w h mx my) ≡ true → AllInside sl s w h mx my
  accepted_inside e i j a b p q u v =
      let r = and_true (reads sl 0 s w h 0 (on mx) 0 (on my)) true e in
      reads_range 0 sl 0 s w h 0 (on mx) 0 (on my) r.0 i j a b p q (pair_range mx a u) (pair_range my b v)

  pub inside_accepted : 1 ≤ w → 1 ≤ h → AllInside sl s w h mx my → met 5 (bilin_tests deep dl ds sl s w h mx my) ≡ true
  inside_accepted w1 h1 f =
      let e = range_reads 0 sl 0 s w h 0 (on mx) 0 (on my) w1 h1 (omega arith) (omega arith)
      (λ i j a b p q u v. f i j a b p q (range_pair mx a u) (range_pair my b v)) in
      rw e refl

-- ---- the rules read no other: pictures that agree there give the same pixel
module _ (q p : ℕ → ℕ → ℕ) where
  abbrev Agree : (f g : ℕ) → Type 0
  Agree f g = (a b : ℕ) → PairRead f a → PairRead g b → q a b ≡ p a b

  next : {f : ℕ} → PairRead (suc f) 1
  next = inr (omega arith, omega arith)

  along_pairs : (f g b : ℕ) → Agree (suc f) g → PairRead g b → along (suc f) q b ≡ along (suc f) p b
  unfolding along
  along_pairs f g b e r = ap₂ (λ (u v : ℕ). bilin (pos u) (pos v) (suc f)) (e 0 b (inl refl) r) (e 1 b next r)

  down_pairs : (f g : ℕ) → Agree f (suc g) → down (suc g) q ≡ down (suc g) p
  unfolding down
  down_pairs f g e = ap₂ (λ (u v : ℕ). bilin (pos u) (pos v) (suc g)) (e 0 0 (inl refl) (inl refl)) (e 0 1 (inl refl) next)

  both_pairs : (B f g : ℕ) → Agree (suc f) (suc g)
      → bilin (bilin_mid B (suc f) q 0) (bilin_mid B (suc f) q 1) (suc g) ≡ bilin (bilin_mid B (suc f) p 0) (bilin_mid B (suc f) p 1) (suc g)
  unfolding bilin_mid
  both_pairs B f g e =
      ap₂ (λ (u v : ℤ). bilin (low16 (R (4 - B) u)) (low16 (R (4 - B) v)) (suc g)) (along_pairs f (suc g) 0 e (inl refl)) (along_pairs f (suc g) 1 e next)

  put_pairs : (M B f g : ℕ) → Agree f g → put_bilin M B f g q ≡ put_bilin M B f g p
  unfolding put_bilin
  put_pairs M B zero zero e = e 0 0 (inl refl) (inl refl)
  put_pairs M B (suc f) zero e = ap (λ (v : ℤ). clip M (R (4 - B) v +ℤ pos (2 ^ (B - 1)) >> B)) (along_pairs f 0 0 e (inl refl))
  put_pairs M B zero (suc g) e = ap (λ (v : ℤ). clip M (R 4 v)) (down_pairs 0 g e)
  put_pairs M B (suc f) (suc g) e = ap (λ (v : ℤ). clip M (R (4 + B) v)) (both_pairs B f g e)

  prep_pairs : (B P f g : ℕ) → Agree f g → prep_bilin B P f g q ≡ prep_bilin B P f g p
  unfolding prep_bilin
  prep_pairs B P zero zero e = ap (prep B P) (e 0 0 (inl refl) (inl refl))
  prep_pairs B P (suc f) zero e = ap (λ (v : ℤ). minus16 (low16 (R (4 - B) v)) (pos P)) (along_pairs f 0 0 e (inl refl))
  prep_pairs B P zero (suc g) e = ap (λ (v : ℤ). minus16 (low16 (R (4 - B) v)) (pos P)) (down_pairs 0 g e)
  prep_pairs B P (suc f) (suc g) e = ap (λ (v : ℤ). minus16 (low16 (R 4 v)) (pos P)) (both_pairs B f g e)

-- so an accepted call's pixel is the rule on what stands at these places, whatever d stands outside of the source
module _ (src : List ℕ) (s w h : ℕ) (mx my : ℤ) (all : AllInside (length src) s w h mx my) (d : ℤ → ℕ) (i j : ℕ) (p : i < w) (q : j < h) where
  same : Agree (around 0 src 0 s i j) (λ a b. standing d src (tap_at 0 0 s i j a b)) (up mx) (up my)
  same a b u v = around-stands 0 0 s i j a b d src (all i j a b p q u v)

  pub put-stands : (M B : ℕ) → put_bilin M B (up mx) (up my) (around 0 src 0 s i j)
      ≡ put_bilin M B (up mx) (up my) (λ a b. standing d src (tap_at 0 0 s i j a b))
  put-stands M B = put_pairs _ _ M B (up mx) (up my) same

  pub prep-stands : (B P : ℕ) → prep_bilin B P (up mx) (up my) (around 0 src 0 s i j)
      ≡ prep_bilin B P (up mx) (up my) (λ a b. standing d src (tap_at 0 0 s i j a b))
  prep-stands B P = prep_pairs _ _ B P (up mx) (up my) same
