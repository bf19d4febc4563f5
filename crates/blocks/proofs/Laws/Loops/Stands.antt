-- Rows that stand after or before one another: each of them is in its source, and the rows of one stride are such rows. Assumes nothing.
use mathlib.Core.Path.{◌≡◌, ◌∙◌, ap, fun_ext}
use mathlib.Core.List.{List}
use Prim.Native.Nat.{ℕ, ◌+◌, ◌-◌, ◌*◌, ◌≤◌, ◌<◌}
use native.Mathlib.Nat.{mul-le-mul_right, add-mul}
use native.Mathlib.Omega.{arith}
use lib.IntN.{ℤ}
use lib.ListN.{get_or}
use Rattle.rows.specs.Places.{pixel, fill, around}
use Rattle.rows.specs.Edge.{endless, edge}
use Rattle.blocks.specs.inner.Ready.{Rows}
use Rattle.blocks.specs.inner.Source.{top_down, row_first, rows_from, pixel_in, around_in, edge_in, Stood}
use Rattle.blocks.specs.declared.source.Stand.{Stand}

-- in a turn at row j: it begins within the source, and ends there
pub record StoodRow (l : ℕ) (s : Stand) (w j : ℕ) : Type 0 where
  pub before : j * s.back ≤ s.off
  pub after : s.off + j * s.forth + w ≤ l
  pub room : row_first s j + w ≤ l

pub stood_row : {l : ℕ} {s : Stand} {w h : ℕ} (j : ℕ) → Stood l s w h → j < h → StoodRow l s w j
unfolding row_first
stood_row {l} {s} {w} {h} j r lt =
    let b : j * s.back ≤ (h - 1) * s.back = mul-le-mul_right {m = j} {n = h - 1} s.back (omega arith) in
    let f : j * s.forth ≤ (h - 1) * s.forth = mul-le-mul_right {m = j} {n = h - 1} s.forth (omega arith) in
    record { before = omega (arith, r); after = omega (arith, r); room = omega (arith, r) }

-- ---- some of the rows
pub first_from : (s : Stand) (k j : ℕ) → k * s.back ≤ s.off → row_first (rows_from s k) j ≡ row_first s (k + j)
unfolding row_first
first_from s k j le = omega arith

pub stood_part : {l : ℕ} {s : Stand} {w h : ℕ} (k n : ℕ) → Stood l s w h → 1 ≤ n → k + n ≤ h → Stood l (rows_from s k) w n
unfolding row_first
stood_part {l} {s} {w} {h} k n r some most =
    let b : (k + (n - 1)) * s.back ≤ (h - 1) * s.back = mul-le-mul_right {m = k + (n - 1)} {n = h - 1} s.back (omega arith) in
    let f : (k + (n - 1)) * s.forth ≤ (h - 1) * s.forth = mul-le-mul_right {m = k + (n - 1)} {n = h - 1} s.forth (omega arith) in
    record {
      forth = r.forth;
      back = r.back;
      before = omega (arith, r, add-mul k (n - 1) s.back, add-mul k (n - 1) s.forth);
      after = omega (arith, r, add-mul k (n - 1) s.back, add-mul k (n - 1) s.forth);
    }

pub stood_less : {l : ℕ} {s : Stand} {w m h : ℕ} → Stood l s w h → m ≤ h → Stood l s w m
stood_less {l} {s} {w} {m} {h} r le =
    let b : (m - 1) * s.back ≤ (h - 1) * s.back = mul-le-mul_right {m = m - 1} {n = h - 1} s.back (omega arith) in
    let f : (m - 1) * s.forth ≤ (h - 1) * s.forth = mul-le-mul_right {m = m - 1} {n = h - 1} s.forth (omega arith) in
    record { forth = r.forth; back = r.back; before = omega (arith, r); after = omega (arith, r) }

-- ---- rows of one stride
pub first-down : (o s j : ℕ) → row_first (top_down o s) j ≡ o + j * s
unfolding row_first
first-down o s j = omega arith

pub stood_from : {l o s w h : ℕ} → s ≤ 32768 → o + (h - 1) * s + w ≤ l → Stood l (top_down o s) w h
stood_from most fits = record { forth = most; back = omega arith; before = omega arith; after = fits }

pub stood_rows : {l s w h : ℕ} → Rows l s w h → Stood l (top_down 0 s) w h
stood_rows r = stood_from r.most (omega (arith, r.fits))

-- the pixels are those of a buffer of rows, and those around a place of a block that begins at place o
pub around-down : (m : ℕ) (src : List ℕ) (o s : ℕ) → around_in m src (top_down o s) ≡ around m src o s
unfolding around_in around
around-down m src o s =
    fun_ext λ i. fun_ext λ j. fun_ext λ a. fun_ext λ b.
    ap (λ (p : ℕ). get_or src p 0) (omega arith)

pub edges_down : (plane : List ℕ) (s iw ih : ℕ) (x y : ℤ) → edge_in plane (top_down 0 s) iw ih x y ≡ edge plane s iw ih x y
unfolding edge_in row_first edge endless
edges_down plane s iw ih x y = fun_ext λ i. fun_ext λ j. ap (λ (p : ℕ). get_or plane p 0) (omega arith)

pub pixels-down : {A : Type 0} (rule : ℕ → A) (src : List ℕ) (s : ℕ)
    → ◌≡◌ {A = ℕ → ℕ → A} (λ i j. rule (pixel_in src (top_down 0 s) i j)) (λ i j. rule (pixel src s i j))
unfolding row_first
pixels-down rule src s = fun_ext λ i. fun_ext λ j. ap (λ (p : ℕ). rule (get_or src p 0)) (omega arith)

pub filled_down : {A : Type 0} (rule : ℕ → A) (d : List A) (ds w h : ℕ) (src : List ℕ) (s : ℕ) {d' : List A}
    → d' ≡ fill d ds w h (λ i j. rule (pixel_in src (top_down 0 s) i j)) → d' ≡ fill d ds w h (λ i j. rule (pixel src s i j))
filled_down rule d ds w h src s e = e ∙ ap (fill d ds w h) (pixels-down rule src s)
