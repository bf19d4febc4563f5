-- Scaled blocks, the turns of the loops over a block's rows: which of the source's rows have come in, and what the next ones rely on. put and prep share them.
-- Assumes nothing.
use Rattle.blocks.proofs.Usual.{List, ◌≡◌, refl, ℕ, ◌≤◌, ◌*◌, ◌+◌, ◌-◌, ◌<◌, arith, ℤ, length, get_or, at, row_of, row_same}
use Rattle.rows.specs.Bilinear.{bilin}
use Rattle.rows.specs.Scaled.{position, pixel_of, sixteenth, in_family, put_down, prep_down}
use Rattle.blocks.specs.declared.scaled.ScaledPlan.{ScaledPlan}
use Rattle.blocks.specs.inner.Scaled.{line_of, pair_line_of, LastEight, LastTwo, Filtered, Paired}
use Rattle.blocks.proofs.Laws.Loops.Stands.{stood_less}
use Rattle.blocks.proofs.Laws.Scaled.Rows.{eight_none, eight_at_lem}
use Rattle.blocks.proofs.Laws.Scaled.Pairs.{position-le, two_none}

-- a row of the block is in no later row of the source than the next one and the last one
row_on : (start step y : ℕ) → pixel_of (position start step y) ≤ pixel_of (position start step (y + 1))
row_on start step y = omega (arith, position-le start step {x = y} {y = y + 1} (omega arith))

row_last : (start step y h : ℕ) → y < h → pixel_of (position start step y) ≤ pixel_of (position start step (h - 1))
row_last start step y h lt = omega (arith, position-le start step {x = y} {y = h - 1} (omega arith))

-- ---- 8-tap

-- what some of the rows rely on
filtered_less : {sl tl w m n : ℕ} {p : ScaledPlan} → Filtered sl tl p w n → m ≤ n → Filtered sl tl p w m
filtered_less f h =
    record {
      w1 = f.w1;
      w64 = f.w64;
      across = f.across;
      down = f.down;
      wide = f.wide;
      high = f.high;
      table = f.table;
      rows = stood_less f.rows h;
      fetched = λ k i a b. f.fetched k i (omega arith) b;
    }

-- column i of row j of the block, by put and by prep
abbrev pub put_eight : (max : ℕ) (src : List ℕ) (subpel : List ℤ) (p : ScaledPlan) (i j : ℕ) → ℕ
put_eight max src subpel p i j =
    let v = position p.my p.dy j in
    put_down max p.bits (in_family subpel p.high (sixteenth v)) (λ b. line_of src subpel p (pixel_of v + b) i)

abbrev pub prep_eight : (bias : ℕ) (src : List ℕ) (subpel : List ℤ) (p : ScaledPlan) (i j : ℕ) → ℤ
prep_eight bias src subpel p i j =
    let v = position p.my p.dy j in
    prep_down bias (in_family subpel p.high (sixteenth v)) (λ b. line_of src subpel p (pixel_of v + b) i)

-- before row y of the block n rows have come in, no more than that row takes
pub record EightKept (src : List ℕ) (subpel : List ℤ) (p : ScaledPlan) (w n y : ℕ) (rows : List ℤ) (order : List ℕ) : Type 0 where
  pub last : LastEight w (line_of src subpel p) n rows order
  pub below : n ≤ pixel_of (position p.my p.dy y) + 8

module _ {src : List ℕ} {subpel : List ℤ} {p : ScaledPlan} {w : ℕ} {rows : List ℤ} {order : List ℕ} where
  pub eight_kept_none : order ≡ row_of 8 (λ t. t) → length rows ≡ 512 → EightKept src subpel p w 0 0 rows order
  eight_kept_none e s = record { last = eight_none w _ rows order e s; below = omega arith }

  pub eight_kept_next : (y : ℕ) → LastEight w (line_of src subpel p) (pixel_of (position p.my p.dy y) + 8) rows order
      → EightKept src subpel p w (pixel_of (position p.my p.dy y) + 8) (y + 1) rows order
  eight_kept_next y l = record { last = l; below = omega (arith, row_on p.my p.dy y) }

  pub eight_asked : {sl tl n y h : ℕ} → EightKept src subpel p w n y rows order → Filtered sl tl p w (pixel_of (position p.my p.dy (h - 1)) + 8) → y < h
      → let m = pixel_of (position p.my p.dy y) + 8 in LastEight w (line_of src subpel p) n rows order × (n ≤ m) × Filtered sl tl p w m
  eight_asked {sl} {tl} {n} {y} {h} k f lt = (k.last, k.below, filtered_less f (omega (arith, row_last p.my p.dy y h lt)))

-- a row made of the last eight is one of their lines
pub eight_row : {A : Type 0} (z : A) (g : (ℕ → ℤ) → A) → ((a b : ℕ → ℤ) → ((t : ℕ) → t < 8 → a t ≡ b t) → g a ≡ g b)
    → {w : ℕ} {line : ℕ → ℕ → ℤ} {rows : List ℤ} {order : List ℕ} (k : ℕ) → LastEight w line (k + 8) rows order → (n : ℕ) → n ≤ w
    → row_of n (λ i. g (λ b. at rows (get_or order b 0 * 64 + i))) ≡ row_of n (λ i. g (λ b. line (k + b) i))
eight_row z g same k l n le = row_same z n _ _ (λ i a. same _ _ (λ b lt. eight_at_lem l k refl b i lt (omega arith)))

-- ---- bilinear

-- column i of row j, between the two rows that row j is between
abbrev pub pair_at : List ℕ → ScaledPlan → ℕ → ℕ → ℤ
pair_at src p i j =
    let v = position p.my p.dy j in
    bilin (pair_line_of src p (pixel_of v) i) (pair_line_of src p (pixel_of v + 1) i) (sixteenth v)

-- what some of the rows rely on
paired_less : {sl w m n : ℕ} {p : ScaledPlan} → Paired sl p w n → m ≤ n → Paired sl p w m
paired_less q h =
    record {
      w1 = q.w1;
      w64 = q.w64;
      across = q.across;
      down = q.down;
      even = q.even;
      rows = stood_less q.rows h;
      fetched = λ k i a b. q.fetched k i (omega arith) b;
    }

-- as by 8-tap, of two rows
pub record TwoKept (src : List ℕ) (p : ScaledPlan) (w n y : ℕ) (rows : List ℤ) : Type 0 where
  pub long : length rows ≡ 128
  pub last : LastTwo w (pair_line_of src p) n rows
  pub below : n ≤ pixel_of (position p.my p.dy y) + 2

module _ {src : List ℕ} {p : ScaledPlan} {w : ℕ} {rows : List ℤ} where
  pub two_kept_none : length rows ≡ 128 → TwoKept src p w 0 0 rows
  two_kept_none s = record { long = s; last = two_none w _ rows; below = omega arith }

  pub two_kept_next : (y : ℕ) → length rows ≡ 128 → LastTwo w (pair_line_of src p) (pixel_of (position p.my p.dy y) + 2) rows
      → TwoKept src p w (pixel_of (position p.my p.dy y) + 2) (y + 1) rows
  two_kept_next y s l = record { long = s; last = l; below = omega (arith, row_on p.my p.dy y) }

-- row y of the block asks for no more than the last one
pub pairs_asked : {sl w y h : ℕ} {p : ScaledPlan} → Paired sl p w (pixel_of (position p.my p.dy (h - 1)) + 2) → y < h
    → Paired sl p w (pixel_of (position p.my p.dy y) + 2)
pairs_asked {sl} {w} {y} {h} {p} q lt = paired_less q (omega (arith, row_last p.my p.dy y h lt))
