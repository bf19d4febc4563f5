-- 8-tap by both filters, eight rows at a time: the rows of the second pass are the picture's. Assumes nothing.
use Rattle.blocks.proofs.Usual.{List, ◌≡◌, ◌∙◌, ap, ℕ, ◌≤◌, ◌*◌, ◌+◌, ◌-◌, ◌<◌, ◌/◌, min, arith, pos, ℤ, at, get_or}
use Rattle.blocks.proofs.Usual.{length, span, splice, fill, Block, Rows, mul-le-mul_right}
use lib.ListN.{length-take, length-drop}
use Rattle.rows.specs.Subpel.{tapped}
use Rattle.rows.proofs.Laws.Filters.Taps.{tapped_same}
use Rattle.rows.proofs.Laws.Blocks.Places.{span-length}
use Rattle.blocks.specs.inner.Ready.{Lines}
use Rattle.blocks.specs.inner.Subpel.{prep_line, first_pass, plan_from}
use Rattle.blocks.specs.declared.subpel.plan.Plan.{Plan}
use Rattle.blocks.specs.declared.source.Stand.{Stand}
use Rattle.blocks.specs.inner.Source.{top_down, stand_at, row_first, Stood}
use Rattle.blocks.proofs.Laws.Loops.Groups.{HoldsRows, holds_more, part_long, GroupTo, group_to}
use Rattle.blocks.proofs.Laws.Loops.Stands.{StoodRow, stood_row, first_from, stood_part, stood_from}

-- the first pass from row y + 7 on
first-moved : (p : Plan) (B : ℕ) (src : List ℕ) (y i j : ℕ) {q : Plan} → (y + 7) * p.rows.back ≤ p.rows.off → q ≡ plan_from p (y + 7)
    → first_pass q B src i j ≡ first_pass p B src i (y + (7 + j))
first-moved p B src y i j b e =
    let f : y + 7 + j ≡ y + (7 + j) = omega arith in
    let n : row_first (stand_at p.rows (row_first p.rows (y + 7))) j ≡ row_first p.rows (y + (7 + j)) = first_from p.rows (y + 7) j b ∙ ap (row_first p.rows) f in
    rw e (ap (λ (v : ℕ). prep_line B 0 p.first (p.bits - B) p.step (λ t. get_or src (v + i + t * p.step) 0)) n)

-- in a turn at row y, which makes k rows: where it writes, and the row of the source that it begins to read with
pub record TurnBoth (dl ds sl : ℕ) (s : Stand) (x w h y k : ℕ) : Type 0 where
  pub to : GroupTo dl ds w h y k
  pub first : StoodRow sl s x (y + 7)
  pub rows : Stood sl (stand_at s (row_first s (y + 7))) x k

-- after the first pass of a group at row y, made behind the rows that were carried over: the array is as long as it was, and has the rows of both
pub first-held : (B : ℕ) (src : List ℕ) {dl ds sl x w h y k : ℕ} {p q : Plan} {m r : List ℤ} → TurnBoth dl ds sl p.rows x w h y k → w ≤ 64
    → q ≡ plan_from p (y + 7) → length m ≡ 960 → HoldsRows w (first_pass p B src) m y 7 → r ≡ fill (span m 448 960) 64 w k (first_pass q B src)
    → (length (splice m 448 960 r) ≡ 960) × HoldsRows w (first_pass p B src) (splice m 448 960 r) y (7 + k)
first-held B src {y = y} {k} {p} {q} {m} t wide e long rows is = (
  part_long m 448 _ k 960 _ long (omega arith) is,
  holds_more wide 7 k 960 _ long (omega (arith, t.to)) rows is (λ i j. first-moved p B src y i j t.first.before e),
)

-- the eight intermediates below column i of row j of a group at row y
pub second-held : {w : ℕ} {G : ℕ → ℕ → ℤ} {m : List ℤ} {y k : ℕ} → HoldsRows w G m y (7 + k) → (g : List ℤ) (r n i j : ℕ) → i < w → j < k
    → tapped g r n (λ t. at m (j * 64 + i + t * 64)) ≡ tapped g r n (λ t. G i (y + j + t))
second-held {w} {G} {m} {y} {k} p g r n i j a b =
    tapped_same g r n _ _ λ t c.
    let e : j * 64 + i + t * 64 ≡ (j + t) * 64 + i = omega arith in
    ap (at m) e ∙ p.row i (j + t) a (omega arith) ∙ ap (G i) (omega arith)

-- ---- what the passes rely on: the first seven rows, then those of a group
pub seven_lines : {sl : ℕ} {s : Stand} {step w h : ℕ} → Block w h → Stood sl s (w + 7 * step) (h + 7) → Lines 960 64 sl s step w 7
seven_lines {sl} {s} {step} {w} {h} b reads =
    let f = mul-le-mul_right {m = 6} {n = h + 7 - 1} s.forth (omega (arith, b)) in
    let g = mul-le-mul_right {m = 6} {n = h + 7 - 1} s.back (omega (arith, b)) in
    record {
      w1 = b.w1;
      dst = record { wide = b.w64; most = omega arith; fits = omega (arith, b) };
      src = record { forth = reads.forth; back = reads.back; before = omega (arith, reads, g); after = omega (arith, reads, f) };
    }

pub turn_both : {dl ds sl : ℕ} {s : Stand} {x w h group k : ℕ} → Rows dl ds w h → Stood sl s x (h + 7) → group < (h + 7) / 8
    → k ≡ min 8 (h - 8 * group) → TurnBoth dl ds sl s x w h (8 * group) k
turn_both {h = h} {group} {k} rows reads lt e =
    let t = group_to (8 * group) k rows (omega arith) e in record {
      to = t;
      first = stood_row (8 * group + 7) reads (omega arith);
      rows = stood_part (8 * group + 7) k reads t.some (omega (arith, t));
    }

module _ {dl ds sl : ℕ} {s : Stand} {step w h y k : ℕ} (p : TurnBoth dl ds sl s (w + 7 * step) w h y k) (b : Block w h) where
  pub first_lines : (m : List ℤ) → length m ≡ 960 → Lines (length (span m 448 960)) 64 sl (stand_at s (row_first s (y + 7))) step w k
  first_lines m e =
      let n = span-length (pos 0) m 448 960 (omega arith) in
      record { w1 = b.w1; dst = record { wide = b.w64; most = omega arith; fits = omega (arith, p.to, b) }; src = p.rows }

module _ {dl ds w h y k : ℕ} (p : GroupTo dl ds w h y k) (b : Block w h) where
  pub second_lines : {A : Type 0} (d : List A) {l e : ℕ} → Rows dl ds w h → length d ≡ dl → e ≡ y * ds + (k - 1) * ds + w → l ≡ 960
      → Lines (length (span d (y * ds) e)) ds l (top_down 0 64) 64 w k
  second_lines d {l} {e} rows long end f =
      let n : length (span d (y * ds) e) ≡ e - y * ds = simp (length-take, length-drop) (omega (arith, p)) in
      record {
        w1 = b.w1;
        dst = record { wide = rows.wide; most = rows.most; fits = omega (arith, p) };
        src = stood_from (omega arith) (omega (arith, p, b));
      }
