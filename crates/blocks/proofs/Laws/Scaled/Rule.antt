-- Scaled blocks: what the plan's rows give is the rule on the pixels around a place. Assumes nothing.
use Rattle.blocks.proofs.Usual.{List, ◌≡◌, ◌∙◌, ap, ap₂, ℕ, ◌≤◌, ◌*◌, ◌+◌, ◌-◌, ◌<◌, ◌^◌, arith, pos, ℤ, get_or, up, clip, minus16, half, px, low16}
use Rattle.blocks.proofs.Usual.{fill, around, fill_same}
use Rattle.rows.specs.Subpel.{Axis, whole, by}
use Rattle.rows.specs.Bilinear.{bilin, R, along, bilin_mid}
use Rattle.rows.specs.Scaled.{position, pixel_of, sixteenth, scaled_mid, put_scaled, prep_scaled, put_bilin_scaled, prep_bilin_scaled}
use Rattle.rows.proofs.Laws.Filters.Taps.{tapped_same}
use Rattle.blocks.specs.Scaled.{scaled_axis, scaled_around}
use Rattle.blocks.specs.inner.Scaled.{scaled_plan, line_of, pair_line_of}
use Rattle.blocks.specs.inner.Source.{top_down, row_first}
use Rattle.blocks.specs.declared.scaled.ScaledPlan.{ScaledPlan}
use Rattle.blocks.proofs.Laws.Scaled.Lines.{put-down_same, prep-down_same}
use Rattle.blocks.proofs.Laws.Scaled.Turns.{put_eight, prep_eight, pair_at}

mid_same : (B : ℕ) (f : Axis) (x y : ℕ → ℕ) → ((a : ℕ) → a < 8 → x a ≡ y a) → scaled_mid B f x ≡ scaled_mid B f y
unfolding scaled_mid
mid_same B whole x y e = ap (λ (v : ℕ). low16 (pos (v * 2 ^ B))) (e 3 (omega arith))
mid_same B (by f) x y e = ap low16 (tapped_same f (half (6 - B)) (6 - B) (λ a. pos (x a)) (λ a. pos (y a)) (λ a b. ap pos (e a b)))

module _ (src : List ℕ) (subpel : List ℤ) (o s : ℕ) (mx my dx dy t : ℤ) (w h B : ℕ) where
  -- ---- 8-tap, whose rows begin three above the block's
  abbrev eight : ScaledPlan
  eight = scaled_plan (top_down (o - 3 * s) s) mx my dx dy t w h B

  abbrev row : ℕ → ℕ
  row j = pixel_of (position (up my) (up dy) j)

  line_is : 3 * s ≤ o → (i j b : ℕ)
      → line_of src subpel eight (row j + b) i ≡ scaled_mid B (scaled_axis subpel t mx dx w i) (λ a. scaled_around 3 src o s mx my dx dy i j a b)
  unfolding line_of scaled_plan row_first scaled_axis around
  line_is m i j b = mid_same B _ _ _ (λ a c. ap (λ (p : ℕ). get_or src p 0) (omega arith))

  pub put_planned : 3 * s ≤ o → (M : ℕ) (d : List ℕ) (ds : ℕ) → 0 < ds
      → fill d ds w h (put_eight M src subpel eight)
      ≡ fill d ds w h
      (λ i j. put_scaled M B (scaled_axis subpel t mx dx w i) (scaled_axis subpel t my dy h j) (scaled_around 3 src o s mx my dx dy i j))
  unfolding scaled_plan scaled_axis put_scaled
  put_planned m M d ds p = fill_same 0 ds p d w h _ _ (λ i j a c. put-down_same M B _ _ _ (λ b e. line_is m i j b))

  pub prep_planned : 3 * s ≤ o → (P : ℕ) (d : List ℤ) (ds : ℕ) → 0 < ds
      → fill d ds w h (prep_eight P src subpel eight)
      ≡ fill d ds w h
      (λ i j. prep_scaled B P (scaled_axis subpel t mx dx w i) (scaled_axis subpel t my dy h j) (scaled_around 3 src o s mx my dx dy i j))
  unfolding scaled_plan scaled_axis prep_scaled
  prep_planned m P d ds p = fill_same (pos 0) ds p d w h _ _ (λ i j a c. prep-down_same P _ _ _ (λ b e. line_is m i j b))

module _ (src : List ℕ) (o s : ℕ) (mx my dx dy t : ℤ) (w h B : ℕ) where
  -- ---- bilinear, whose rows begin at the block's
  abbrev down : ℕ → ℕ
  down j = pixel_of (position (up my) (up dy) j)

  abbrev two : ScaledPlan
  two = scaled_plan (top_down o s) mx my dx dy t w h B

  pair_is : (i j b : ℕ) → pair_line_of src two (down j + b) i ≡ bilin_mid B (sixteenth (position (up mx) (up dx) i)) (scaled_around 0 src o s mx my dx dy i j) b
  unfolding pair_line_of scaled_plan row_first bilin_mid along around
  pair_is i j b =
      ap₂ (λ (p q : ℕ). low16 (R (4 - B) (bilin (px src p) (px src q) (sixteenth (position (up mx) (up dx) i))))) (omega arith) (omega arith)

  between_is : (i j : ℕ)
      → pair_at src two i j
      ≡ bilin (bilin_mid B (sixteenth (position (up mx) (up dx) i)) (scaled_around 0 src o s mx my dx dy i j) 0)
      (bilin_mid B (sixteenth (position (up mx) (up dx) i)) (scaled_around 0 src o s mx my dx dy i j) 1) (sixteenth (position (up my) (up dy) j))
  unfolding scaled_plan
  between_is i j =
      ap₂ (λ (a b : ℤ). bilin a b (sixteenth (position (up my) (up dy) j)))
      (ap (λ (k : ℕ). pair_line_of src two k i) (omega arith) ∙ pair_is i j 0)
      (pair_is i j 1)

  pub put_paired : (M : ℕ) (d : List ℕ) (ds : ℕ) → 0 < ds
      → fill d ds w h (λ i j. clip M (R (4 + two.bits) (pair_at src two i j)))
      ≡ fill d ds w h
      (λ i j. put_bilin_scaled M B (sixteenth (position (up mx) (up dx) i)) (sixteenth (position (up my) (up dy) j)) (scaled_around 0 src o s mx my dx dy i j))
  unfolding scaled_plan put_bilin_scaled
  put_paired M d ds p = fill_same 0 ds p d w h _ _ (λ i j a c. ap (λ (z : ℤ). clip M (R (4 + B) z)) (between_is i j))

  pub prep_paired : (P : ℕ) (d : List ℤ) (ds : ℕ) → 0 < ds
      → fill d ds w h (λ i j. minus16 (low16 (R 4 (pair_at src two i j))) (pos P))
      ≡ fill d ds w h
      (λ i j. prep_bilin_scaled B P (sixteenth (position (up mx) (up dx) i)) (sixteenth (position (up my) (up dy) j)) (scaled_around 0 src o s mx my dx dy i j))
  unfolding scaled_plan prep_bilin_scaled
  prep_paired P d ds p = fill_same (pos 0) ds p d w h _ _ (λ i j a c. ap (λ (z : ℤ). minus16 (low16 (R 4 z)) (pos P)) (between_is i j))
