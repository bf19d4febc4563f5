-- Bilinear by both fractions, eight rows at a time: what the passes of a group rely on, and that the second's rows are the picture's. Assumes nothing.
use Rattle.blocks.proofs.Usual.{List, ◌≡◌, ◌∙◌, sym, ap, ap₂, ℕ, ◌≤◌, ◌*◌, ◌+◌, ◌-◌, ◌<◌, ◌/◌, min, arith, pos, ℤ, at, px, clip, low16}
use Rattle.blocks.proofs.Usual.{minus16, length, span, splice, fill}
use Rattle.rows.specs.Bilinear.{bilin, R, bilin_mid, put_bilin, prep_bilin}
use Rattle.rows.specs.inner.Bilinear.{bilin_at}
use Rattle.rows.proofs.Laws.Blocks.Places.{span-length}
use Rattle.rows.proofs.Laws.Numbers.Low.{low16_again}
use Rattle.blocks.specs.inner.Ready.{PairsIn, Bilin}
use Rattle.blocks.specs.inner.Source.{row_first, rows_from, around_in}
use Rattle.blocks.proofs.Laws.Loops.Stands.{StoodRow, stood_row, stood_part, first_from}
use Rattle.blocks.proofs.Laws.Bilinear.Ready.{stood_both}
use Rattle.blocks.proofs.Laws.Bilinear.Rule.{along-row, put_hv, prep_hv}
use Rattle.blocks.proofs.Laws.Loops.Groups.{HoldsRows, holds_more, part_long, GroupTo, group_to}
use Rattle.blocks.specs.declared.source.Stand.{Stand}

-- the first pass: the intermediate in column i of row r
abbrev pub first_mid : (n f : ℕ) (src : List ℕ) (s : Stand) → ℕ → ℕ → ℤ
first_mid n f src s i r = minus16 (low16 (R n (bilin_at (px src) (row_first s r + i) 1 f))) (pos 0)

-- from row r on
first-moved : (n f : ℕ) (src : List ℕ) (s : Stand) (r i j : ℕ) → r * s.back ≤ s.off → first_mid n f src (rows_from s r) i j ≡ first_mid n f src s i (r + j)
first-moved n f src s r i j le = ap (λ (o : ℕ). minus16 (low16 (R n (bilin_at (px src) (o + i) 1 f))) (pos 0)) (first_from s r j le)

-- in a turn at row y, which makes k rows: where it writes, and that its rows and the one after them begin within the source, so the row that its first pass
-- begins with
pub record TurnBoth (dl ds sl : ℕ) (s : Stand) (w h y k : ℕ) : Type 0 where
  pub to : GroupTo dl ds w h y k
  pub rows : (r : ℕ) → r < y + (1 + k) → StoodRow sl s (w + 1) r
  pub next : StoodRow sl s (w + 1) (y + 1)

-- after the first pass of a group at row y, made behind the row that was carried over: the array is as long as it was, and has the rows of both
pub first-held : {dl ds sl w h y k : ℕ} {m r : List ℤ} (n f : ℕ) (src : List ℕ) (s : Stand) → TurnBoth dl ds sl s w h y k → w ≤ 64 → length m ≡ 576
    → HoldsRows w (first_mid n f src s) m y 1 → r ≡ fill (span m 64 576) 64 w k (first_mid n f src (rows_from s (y + 1)))
    → (length (splice m 64 576 r) ≡ 576) × HoldsRows w (first_mid n f src s) (splice m 64 576 r) y (1 + k)
first-held {w = w} {y = y} {k} n f src s t wide long p is =
    let same : (i j : ℕ) → first_mid n f src (rows_from s (y + 1)) i j ≡ first_mid n f src s i (y + (1 + j)) =
    λ i j. first-moved n f src s (y + 1) i j t.next.before ∙ ap (first_mid n f src s i) (omega arith) in
    (part_long _ 64 w k 576 _ long (omega arith) is, holds_more wide 1 k 576 _ long (omega (arith, t.to)) p is same)

-- ---- the second pass of a group at row y

module _ (B f : ℕ) (src : List ℕ) (s : Stand) {dl ds sl w h y k : ℕ} {m : List ℤ} (t : TurnBoth dl ds sl s w h y k)
    (p : HoldsRows w (first_mid (4 - B) f src s) m y (1 + k)) where
  -- reads the first's intermediates as "both R(4-B) kept as low16"
  mid_at : (i j b q : ℕ) → q ≡ (j + b) * 64 + i → i < w → j + b < 1 + k → at m q ≡ bilin_mid B f (around_in 0 src s i (y + j)) b
  unfolding bilin_mid
  mid_at i j b q e u v =
      ap (at m) e ∙ p.row i (j + b) u v ∙ low16_again _
      ∙ ap (λ (x : ℤ). low16 (R (4 - B) x))
      (along-row src s f i (y + j) b _ (ap (λ (r : ℕ). row_first s r + i) (omega arith)) (t.rows (y + j + b) (omega arith)).before)

  mid_pair : (g i j : ℕ) → i < w → j < k
      → bilin_at (at m) (j * 64 + i) 64 g ≡ bilin (bilin_mid B f (around_in 0 src s i (y + j)) 0) (bilin_mid B f (around_in 0 src s i (y + j)) 1) g
  mid_pair g i j u v = ap₂ (λ (a b : ℤ). bilin a b g) (mid_at i j 0 _ (omega arith) u (omega arith)) (mid_at i j 1 _ (omega arith) u (omega arith))

  module _ {g : ℕ} (f1 : 1 ≤ f) (g1 : 1 ≤ g) (i j : ℕ) (u : i < w) (v : j < k) where
    pub put-held : (M : ℕ) → clip M (R (4 + B) (bilin_at (at m) (j * 64 + i) 64 g)) ≡ put_bilin M B f g (around_in 0 src s i (y + j))
    put-held M = ap (λ (x : ℤ). clip M (R (4 + B) x)) (mid_pair g i j u v) ∙ sym (put_hv M B _ f g f1 g1)

    pub prep-held : (P : ℕ) (bias : ℤ) → bias ≡ pos P
        → minus16 (low16 (R 4 (bilin_at (at m) (j * 64 + i) 64 g))) bias ≡ prep_bilin B P f g (around_in 0 src s i (y + j))
    prep-held P bias e = ap₂ (λ (x b : ℤ). minus16 (low16 (R 4 x)) b) (mid_pair g i j u v) e ∙ sym (prep_hv B P _ f g f1 g1)

-- ---- what the passes rely on

module _ {dl ds sl : ℕ} {s : Stand} {w h f g : ℕ} (b : Bilin dl ds sl s w h f g) (f1 : 1 ≤ f) (g1 : 1 ≤ g) where
  pub turn_both : {group k : ℕ} → group < (h + 7) / 8 → k ≡ min 8 (h - 8 * group) → TurnBoth dl ds sl s w h (8 * group) k
  turn_both {group} {k} lt e =
      let t = group_to (8 * group) k b.dst (omega arith) e in
      let rows : (r : ℕ) → r < 8 * group + (1 + k) → StoodRow sl s (w + 1) r = λ r l. stood_row r (stood_both b f1 g1) (omega (arith, t)) in
      record { to = t; rows = rows; next = rows (8 * group + 1) (omega (arith, t)) }

module _ {dl ds sl : ℕ} {s : Stand} {w h f g y k : ℕ} (b : Bilin dl ds sl s w h f g) (t : TurnBoth dl ds sl s w h y k) (n : ℕ) (n8 : n ≤ 8) where
  pub first_pairs : (m : List ℤ) → length m ≡ 576 → 1 ≤ f → 1 ≤ g → PairsIn (length (span m 64 576)) 64 sl (rows_from s (y + 1)) 1 w k f n
  first_pairs m long f1 g1 =
      let d = span-length (pos 0) m 64 576 (omega arith) in
      record {
        w1 = b.block.w1;
        dst = record { wide = b.block.w64; most = omega arith; fits = omega (arith, t.to, b.block) };
        src = stood_part (y + 1) k (stood_both b f1 g1) t.to.some (omega (arith, t.to));
        f15 = b.f15;
        n8 = n8;
      }
