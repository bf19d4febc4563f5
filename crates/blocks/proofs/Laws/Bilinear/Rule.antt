-- Bilinear blocks: what the rows compute, pass by pass, is the pixel rule on the pixels around a place. Assumes nothing.
use Rattle.blocks.proofs.Usual.{List, ◌≡◌, ◌∙◌, refl, sym, ap, ap₂, ℕ, ◌*◌, ◌+◌, ◌-◌, ◌<◌, ◌≤◌, ◌^◌, suc, zero, min, arith, pos, ℤ, ◌+ℤ◌, ◌-ℤ◌, ◌*ℤ◌}
use Rattle.blocks.proofs.Usual.{true, false, Bool, eqb, ne_eqb, by-lt}
use Rattle.blocks.proofs.Usual.{length, get_or, shr_z, clip, minus16, px, low16, up, dn, fill, fill_same, eq_of, add_parts, sub_parts}
use mathlib.Core.Bool.{true≢false}
use Rattle.rows.specs.Places.{pick}
use Rattle.rows.specs.Copy.{put, prep}
use Rattle.rows.specs.Bilinear.{bilin, R, along, down, bilin_mid, put_bilin, prep_bilin}
use Rattle.rows.specs.inner.Bilinear.{bilin_at}
use Rattle.rows.proofs.Laws.Filters.Bilinear.{shr-none}
use Rattle.rows.proofs.Laws.Numbers.Signed.{times_up, times_dn}
use Rattle.blocks.specs.inner.Ready.{Bilin}
use Rattle.blocks.specs.inner.Source.{row_first, lower_row, pixel_in, around_in}
use Rattle.blocks.specs.inner.Bilinear.{column_pairs}
use Rattle.blocks.proofs.Laws.Loops.Stands.{stood_row}
use Rattle.blocks.proofs.Laws.Bilinear.Ready.{stood_below}
use Rattle.blocks.specs.declared.source.Stand.{Stand}

-- ---- the pixel rules by case
module _ (M B : ℕ) (q : ℕ → ℕ → ℕ) where
  put-none : (f g : ℕ) → f ≡ 0 → g ≡ 0 → put_bilin M B f g q ≡ put (q 0 0)
  unfolding put_bilin
  put-none f g a b = rw (a, b) refl

  put-h : (f g : ℕ) → 0 < f → g ≡ 0 → put_bilin M B f g q ≡ clip M (shr_z (R (4 - B) (along f q 0) +ℤ pos (2 ^ (B - 1))) (2 ^ B))
  unfolding put_bilin
  put-h zero g a b = absurd (omega arith)
  put-h (suc f) g a b = rw b refl

  put_v : (f g : ℕ) → f ≡ 0 → 0 < g → put_bilin M B f g q ≡ clip M (R 4 (down g q))
  unfolding put_bilin
  put_v f zero a b = absurd (omega arith)
  put_v f (suc g) a b = rw a refl

  pub put_hv : (f g : ℕ) → 0 < f → 0 < g → put_bilin M B f g q ≡ clip M (R (4 + B) (bilin (bilin_mid B f q 0) (bilin_mid B f q 1) g))
  unfolding put_bilin
  put_hv zero g a b = absurd (omega arith)
  put_hv (suc f) zero a b = absurd (omega arith)
  put_hv (suc f) (suc g) a b = refl

module _ (B P : ℕ) (q : ℕ → ℕ → ℕ) where
  prep-none : (f g : ℕ) → f ≡ 0 → g ≡ 0 → prep_bilin B P f g q ≡ prep B P (q 0 0)
  unfolding prep_bilin
  prep-none f g a b = rw (a, b) refl

  prep-h : (f g : ℕ) → 0 < f → g ≡ 0 → prep_bilin B P f g q ≡ minus16 (low16 (R (4 - B) (along f q 0))) (pos P)
  unfolding prep_bilin
  prep-h zero g a b = absurd (omega arith)
  prep-h (suc f) g a b = rw b refl

  prep_v : (f g : ℕ) → f ≡ 0 → 0 < g → prep_bilin B P f g q ≡ minus16 (low16 (R (4 - B) (down g q))) (pos P)
  unfolding prep_bilin
  prep_v f zero a b = absurd (omega arith)
  prep_v f (suc g) a b = rw a refl

  pub prep_hv : (f g : ℕ) → 0 < f → 0 < g → prep_bilin B P f g q ≡ minus16 (low16 (R 4 (bilin (bilin_mid B f q 0) (bilin_mid B f q 1) g))) (pos P)
  unfolding prep_bilin
  prep_hv zero g a b = absurd (omega arith)
  prep_hv (suc f) zero a b = absurd (omega arith)
  prep_hv (suc f) (suc g) a b = refl

-- ---- two numbers that change places exchange their weights
exchange : (a b : ℤ) (f : ℕ) → f ≤ 16 → bilin a b (16 - f) ≡ bilin b a f
unfolding bilin
exchange a b f le =
    let m = 16 - f in let y = b -ℤ a in let z = a -ℤ b in let whole : m + f ≡ 16 = omega arith in
    let e : up y + dn b + up a ≡ dn y + up b + dn a = omega (arith, sub_parts b a) in
    let g : up z + dn a + up b ≡ dn z + up a + dn b = omega (arith, sub_parts a b) in
    eq_of (pos 16 *ℤ a +ℤ pos m *ℤ y) (pos 16 *ℤ b +ℤ pos f *ℤ z)
    (omega (
      arith,
      add_parts (pos 16 *ℤ a) (pos m *ℤ y),
      add_parts (pos 16 *ℤ b) (pos f *ℤ z),
      times_up 16 a,
      times_dn 16 a,
      times_up 16 b,
      times_dn 16 b,
      times_up m y,
      times_dn m y,
      times_up f z,
      times_dn f z,
      ap (λ (k : ℕ). m * k) e,
      ap (λ (k : ℕ). f * k) g,
      ap (λ (k : ℕ). k * up a) whole,
      ap (λ (k : ℕ). k * dn a) whole,
      ap (λ (k : ℕ). k * up b) whole,
      ap (λ (k : ℕ). k * dn b) whole,
    ))

-- ---- the numbers that the rows read, as the pixels around a place
module _ (src : List ℕ) (s : Stand) where
  here : (i j : ℕ) → j * s.back ≤ s.off → pixel_in src s i j ≡ around_in 0 src s i j 0 0
  unfolding around_in row_first
  here i j le = ap (λ (p : ℕ). get_or src p 0) (omega arith)

  pub along-row : (f i j b p : ℕ) → p ≡ row_first s (j + b) + i → (j + b) * s.back ≤ s.off → bilin_at (px src) p 1 f ≡ along f (around_in 0 src s i j) b
  unfolding along around_in row_first
  along-row f i j b p e le = ap₂ (λ (p r : ℕ). bilin (px src p) (px src r) f) (omega arith) (omega arith)

-- down a column: from the lower place in memory on, by the weight that its pixel has there
module _ (src : List ℕ) (s : Stand) (g i j : ℕ) (few : g ≤ 15) (le : (j + 1) * s.back ≤ s.off) where
  abbrev Pairs : (t : Bool) → Type 0
  Pairs t = bilin_at (px src) (row_first (lower_row s) j + i) (s.forth + s.back) (pick t g (16 - g)) ≡ down g (around_in 0 src s i j)

  downward : (t : Bool) → t ≡ true → s.back ≡ 0 → Pairs t
  unfolding down around_in row_first
  downward true e none =
      let z = ap (λ (k : ℕ). j * k) none in
      ap₂ (λ (p r : ℕ). bilin (px src p) (px src r) g) (omega (arith, z)) (omega (arith, z))
  downward false e none = absurd (true≢false (sym e))

  upward : (t : Bool) → t ≡ false → s.forth ≡ 0 → Pairs t
  unfolding down around_in row_first
  upward true e none = absurd (true≢false e)
  upward false e none =
      let z = ap (λ (k : ℕ). j * k) none in
      exchange _ _ g (omega arith) ∙ ap₂ (λ (p r : ℕ). bilin (px src p) (px src r) g) (omega (arith, z)) (omega (arith, z))

down-column : (src : List ℕ) (s : Stand) (g n i j : ℕ) → g ≤ 15 → min s.forth s.back ≡ 0 → (j + 1) * s.back ≤ s.off
    → bilin_at (px src) (row_first (lower_row s) j + i) (column_pairs s g n).step (column_pairs s g n).f ≡ down g (around_in 0 src s i j)
down-column src s g n i j few one le =
    by-lt 0 s.back
    (λ some. upward src s g i j few le _ (ne_eqb s.back 0 (λ z. omega arith)) (omega arith))
    (λ some. let none : s.back ≡ 0 = omega arith in downward src s g i j few le _ (ap (λ (k : ℕ). eqb k 0) none) none)

this_row : (src : List ℕ) (s : Stand) (f i j : ℕ) → j * s.back ≤ s.off → bilin_at (px src) (row_first s j + i) 1 f ≡ along f (around_in 0 src s i j) 0
this_row src s f i j le =
    let e : j + 0 ≡ j = omega arith in
    along-row src s f i j 0 _ (rw e refl) (rw e le)

-- each row of the block, and of one without a fraction across the row below it, begins within the source
module _ {dl ds sl : ℕ} {s : Stand} {w h f g : ℕ} (p : Bilin dl ds sl s w h f g) where
  within : (j : ℕ) → j < h → j * s.back ≤ s.off
  within j lt = (stood_row j p.src (omega arith)).before

  row_below : f ≡ 0 → 0 < g → (j : ℕ) → j < h → (j + 1) * s.back ≤ s.off
  row_below a b j lt = (stood_row (j + 1) (stood_below p a b) (omega arith)).before

-- ---- the block in each case of one axis or none
module _ (M B : ℕ) (src d : List ℕ) {s : Stand} {ds w h f g : ℕ} (p : Bilin (length d) ds (length src) s w h f g) where
  put_same : (rule : ℕ → ℕ → ℕ) → ((i j : ℕ) → i < w → j < h → rule i j ≡ put_bilin M B f g (around_in 0 src s i j))
      → fill d ds w h rule ≡ fill d ds w h (λ i j. put_bilin M B f g (around_in 0 src s i j))
  put_same rule e = fill_same 0 ds (omega (arith, p.dst, p.block)) d w h rule _ e

  pub put_copied : f ≡ 0 → g ≡ 0 → fill d ds w h (λ i j. put (pixel_in src s i j)) ≡ fill d ds w h (λ i j. put_bilin M B f g (around_in 0 src s i j))
  put_copied a b = put_same _ λ i j x y. here src s i j (within p j y) ∙ sym (put-none M B _ f g a b)

  pub put-across : 0 < f → g ≡ 0
      → fill d ds w h (λ i j. clip M (shr_z (R (4 - B) (bilin_at (px src) (row_first s j + i) 1 f) +ℤ pos (2 ^ (B - 1))) (2 ^ B)))
      ≡ fill d ds w h (λ i j. put_bilin M B f g (around_in 0 src s i j))
  put-across a b =
      put_same _ λ i j x y.
      ap (λ (v : ℤ). clip M (shr_z (R (4 - B) v +ℤ pos (2 ^ (B - 1))) (2 ^ B))) (this_row src s f i j (within p j y)) ∙ sym (put-h M B _ f g a b)

  pub put_downward : f ≡ 0 → 0 < g
      → fill d ds w h (λ i j. clip M (shr_z (R 4 (bilin_at (px src) (row_first (lower_row s) j + i) (column_pairs s g 4).step (column_pairs s g 4).f) +ℤ pos 0) (2 ^ 0)))
      ≡ fill d ds w h (λ i j. put_bilin M B f g (around_in 0 src s i j))
  put_downward a b =
      put_same _ λ i j x y.
      ap (clip M) (shr-none _ ∙ ap (R 4) (down-column src s g 4 i j p.g15 p.one (row_below p a b j y))) ∙ sym (put_v M B _ f g a b)

module _ (B P : ℕ) (src : List ℕ) (d : List ℤ) {s : Stand} {ds w h f g : ℕ} (p : Bilin (length d) ds (length src) s w h f g) where
  prep_same : (rule : ℕ → ℕ → ℤ) → ((i j : ℕ) → i < w → j < h → rule i j ≡ prep_bilin B P f g (around_in 0 src s i j))
      → fill d ds w h rule ≡ fill d ds w h (λ i j. prep_bilin B P f g (around_in 0 src s i j))
  prep_same rule e = fill_same (pos 0) ds (omega (arith, p.dst, p.block)) d w h rule _ e

  pub prep_copied : f ≡ 0 → g ≡ 0 → fill d ds w h (λ i j. prep B P (pixel_in src s i j)) ≡ fill d ds w h (λ i j. prep_bilin B P f g (around_in 0 src s i j))
  prep_copied a b = prep_same _ λ i j x y. ap (prep B P) (here src s i j (within p j y)) ∙ sym (prep-none B P _ f g a b)

  pub prep-across : 0 < f → g ≡ 0
      → fill d ds w h (λ i j. minus16 (low16 (R (4 - B) (bilin_at (px src) (row_first s j + i) 1 f))) (pos P))
      ≡ fill d ds w h (λ i j. prep_bilin B P f g (around_in 0 src s i j))
  prep-across a b =
      prep_same _ λ i j x y.
      ap (λ (v : ℤ). minus16 (low16 (R (4 - B) v)) (pos P)) (this_row src s f i j (within p j y)) ∙ sym (prep-h B P _ f g a b)

  pub prep_downward : f ≡ 0 → 0 < g
      → fill d ds w h (λ i j. minus16 (low16 (R (4 - B) (bilin_at (px src) (row_first (lower_row s) j + i) (column_pairs s g (4 - B)).step (column_pairs s g (4 - B)).f))) (pos P))
      ≡ fill d ds w h (λ i j. prep_bilin B P f g (around_in 0 src s i j))
  prep_downward a b =
      prep_same _ λ i j x y.
      ap (λ (v : ℤ). minus16 (low16 (R (4 - B) v)) (pos P)) (down-column src s g (4 - B) i j p.g15 p.one (row_below p a b j y))
      ∙ sym (prep_v B P _ f g a b)
