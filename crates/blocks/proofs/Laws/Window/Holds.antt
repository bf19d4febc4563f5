-- What a window holds: in either mode, and wherever it lies, the pixels of the endless plane. Assumes nothing.
use Rattle.blocks.proofs.Usual.{true, Bool, false, List, ◌≡◌, ◌∙◌, refl, ap, ℕ, ◌≤◌, ◌*◌, ◌+◌, ◌-◌, ◌<◌, suc, zero, mul-le-mul_right, add-mul, arith}
use Rattle.blocks.proofs.Usual.{eqb, pos, ℤ, ◌+ℤ◌, length, get_or, le_z, up, clip, dn, pixel, span, fill, around, lowest, or_same, LentPlane, window_tests}
use Rattle.blocks.proofs.Usual.{area_of, Asked, lent_w, lent_h, before, window_of, part_of, is_planes, window_at, scratch_of, Rows, and_true, fill_in_lem}
use Rattle.blocks.proofs.Usual.{length-fill, row_fits, one-part, add_parts, le_yes}
use native.Mathlib.Nat.{zero-add}
use Rattle.rows.specs.Edge.{endless, edge, around_at}
use Rattle.rows.proofs.Laws.Numbers.Signed.{clip-up}
use Rattle.rows.proofs.Laws.Blocks.Places.{span-length, span-at}
use Rattle.blocks.specs.Refuse.{part_len}
use Rattle.blocks.specs.inner.Ready.{Fetch, PartIn}
use Rattle.blocks.specs.inner.Source.{top_down}
use Rattle.blocks.specs.Window.{window_side, plane_if_inside, inside, own_plane, no_part}
use Rattle.blocks.specs.Window.{fetched, around_part}
use Rattle.blocks.specs.Order.{plane_of}
use Rattle.blocks.proofs.Laws.Window.Ready.{window_ready, window_number}
use Rattle.blocks.specs.declared.frame.Area.{Area}
use Rattle.blocks.specs.declared.window.Part.{Part}

-- ---- a window inside its plane
-- n columns from x on lie inside the side
pub record Inside (x : ℤ) (n side : ℕ) : Type 0 where
  pub low : dn x ≡ 0
  pub high : up x + n ≤ side

inside_met : (x : ℤ) (n side : ℕ) → inside x n side ≡ true → Inside x n side
unfolding inside
inside_met x n side e =
    let p = and_true (le_z (pos 0) x) (le_z (x +ℤ pos n) (pos side)) e in
    record {
      low = omega (arith, le_yes (pos 0) x p.0, one-part x);
      high = omega (arith, le_yes (pos 0) x p.0, one-part x, le_yes (x +ℤ pos n) (pos side) p.1, add_parts x (pos n), one-part (x +ℤ pos n));
    }

pub planes_met : (mode : ℕ) (a : Area) → is_planes mode a ≡ true → Inside a.left a.ww a.iw × Inside a.top a.wh a.ih
unfolding is_planes
planes_met mode a e =
    let r = and_true (inside a.left a.ww a.iw) (inside a.top a.wh a.ih) (and_true (eqb mode plane_if_inside) _ e).1 in
    (inside_met a.left a.ww a.iw r.0, inside_met a.top a.wh a.ih r.1)

-- there, the nearest column is the column itself
clip-inside : (x : ℤ) (n side i : ℕ) → Inside x n side → i < n → clip (side - 1) (x +ℤ pos i) ≡ up x + i
clip-inside x n side i p h = omega (arith, p, clip-up (side - 1) (x +ℤ pos i), add_parts x (pos i), one-part (x +ℤ pos i))

-- and the plane holds the window
pub planes_fit : {a : Area} {sl pl ps : ℕ} → Fetch a sl a.ww pl (top_down 0 ps) → Inside a.left a.ww a.iw → Inside a.top a.wh a.ih
    → up a.top * ps + up a.left + part_len ps a.ww a.wh ≤ pl
planes_fit {a} {sl} {pl} {ps} ok p q =
    let below : up a.top + (a.wh - 1) ≤ a.ih - 1 = omega (arith, ok.area, q) in
    let low : (up a.top + (a.wh - 1)) * ps ≤ (a.ih - 1) * ps = mul-le-mul_right {m = up a.top + (a.wh - 1)} {n = a.ih - 1} ps below in
    omega (arith, low, add-mul (up a.top) (a.wh - 1) ps, ok.plane, p)

-- ---- a buffer of h rows of w at the stride s whose pixels are g's
pub record Shows (src : List ℕ) (s w h : ℕ) (g : ℕ → ℕ → ℕ) : Type 0 where
  pub rows : Rows (length src) s w h
  pub same : (i j : ℕ) → i < w → j < h → pixel src s i j ≡ g i j

-- such rows from place o on, as a part
span_shows : (l : List ℕ) (o s w h : ℕ) (g : ℕ → ℕ → ℕ) → w ≤ s → s ≤ 32768 → o + part_len s w h ≤ length l
    → ((i j : ℕ) → i < w → j < h → get_or l (o + (j * s + i)) 0 ≡ g i j) → Shows (span l o (o + part_len s w h)) s w h g
span_shows l o s w h g wide most fits same =
    let n : length (span l o (o + part_len s w h)) ≡ part_len s w h = span-length 0 l o (o + part_len s w h) fits ∙ omega arith in
    record {
      rows = record { wide = wide; most = most; fits = omega (arith, n) };
      same = λ i j a b.
          span-at 0 l o (o + part_len s w h) fits (j * s + i) (omega (arith, row_fits (part_len s w h) s w h j (omega arith) b)) ∙ same i j a b;
    }

module _ (a : Area) (plane scratch : List ℕ) {ps : ℕ} (ok : Fetch a (length scratch) a.ww (length plane) (top_down 0 ps)) where
  abbrev seen : ℕ → ℕ → ℕ
  seen = edge plane ps a.iw a.ih a.left a.top

  -- the plane's own part
  plane_shows : Inside a.left a.ww a.iw → Inside a.top a.wh a.ih
      → Shows (span plane (up a.top * ps + up a.left) (up a.top * ps + up a.left + part_len ps a.ww a.wh)) ps a.ww a.wh seen
  unfolding edge endless
  plane_shows p q =
      span_shows plane (up a.top * ps + up a.left) ps a.ww a.wh seen (omega (arith, ok.wide, p)) ok.plane.forth
      (planes_fit ok p q) λ i j wi hj.
      ap (λ (k : ℕ). get_or plane k 0)
      (rw (clip-inside a.left a.ww a.iw i p wi, clip-inside a.top a.wh a.ih j q hj) (omega (arith, add-mul (up a.top) j ps)))

  -- scratch, filled
  scratch_shows : Shows (span (fill scratch a.ww a.ww a.wh seen) 0 (0 + part_len a.ww a.ww a.wh)) a.ww a.ww a.wh seen
  scratch_shows =
      let n = length-fill scratch a.ww a.ww a.wh seen in
      span_shows (fill scratch a.ww a.ww a.wh seen) 0 a.ww a.ww a.wh seen (omega arith) ok.dst.most
      (omega (arith, n, ok.dst)) λ i j wi hj.
      let r = row_fits (length scratch) a.ww a.ww a.wh j ok.dst.fits hj in
      ap (λ (k : ℕ). get_or (fill scratch a.ww a.ww a.wh seen) k 0) (zero-add (j * a.ww + i))
      ∙ fill_in_lem 0 a.ww scratch a.ww a.wh seen i j (omega arith) wi hj (omega (arith, r))

  -- either, by whether the plane has the window
  by-plane : (b : Bool) → (b ≡ true → Inside a.left a.ww a.iw × Inside a.top a.wh a.ih)
      → Shows (part_of (window_at b ps a) plane (fetched b plane ps a scratch)) (window_at b ps a).stride a.ww a.wh seen
  unfolding part_of window_at fetched
  by-plane true p = plane_shows (p refl).0 (p refl).1
  by-plane false p = scratch_shows

-- ---- what an answer names is in its buffer
pub window_in : (p : LentPlane) (q : Asked) (sl : ℕ) → PartIn (window_of p q sl) (length p.plane) sl
unfolding window_of window_at or_same
window_in p q sl =
    go (area_of p q) (lowest (window_tests p q sl)) (window_ready p q sl) (own_plane p q) (planes_met q.mode (area_of p q)) where
      go : (a : Area) (n : ℕ) → (n ≡ 0 → Fetch a sl a.ww (length p.plane) (top_down 0 p.stride))
          → (b : Bool) → (b ≡ true → Inside a.left a.ww a.iw × Inside a.top a.wh a.ih)
          → PartIn (or_same n (window_at b p.stride a) (no_part n)) (length p.plane) sl
      go a zero ok true i = record { plane = λ e. planes_fit (ok refl) (i refl).0 (i refl).1; scratch = λ e. absurd (omega arith) }
      go a zero ok false i = record { plane = λ e. absurd (omega arith); scratch = λ e. omega (arith, (ok refl).dst) }
      go a (suc n) ok b i = record { plane = λ e. absurd (omega arith); scratch = λ e. absurd (omega arith) }

-- and filling scratch keeps its length
pub length-scratch_of : (n : ℕ) (p : LentPlane) (q : Asked) (scratch : List ℕ) → length (scratch_of n p q scratch) ≡ length scratch
unfolding scratch_of fetched or_same
length-scratch_of n p q scratch = go n (own_plane p q) where
  go : (n : ℕ) (b : Bool) → length (or_same n (fetched b p.plane p.stride (area_of p q) scratch) scratch) ≡ length scratch
  go zero true = refl
  go zero false = length-fill scratch _ _ _ _
  go (suc n) b = refl

-- so after the call that filled scratch, the part r can be picked
pub picked_in : (p : LentPlane) (q : Asked) (scratch : List ℕ) (r : Part) (filled : List ℕ) → r ≡ window_of p q (length scratch)
    → filled ≡ scratch_of r.number p q scratch → PartIn r (length p.plane) (length filled)
picked_in p q scratch r filled is full =
    let n : length filled ≡ length scratch = ap length full ∙ length-scratch_of r.number p q scratch in
    rw (n, is) (window_in p q (length scratch))

-- ---- the part of an accepted window
-- what a kernel reads: the window's rows, in which the pixels around each place of the block are the plane g's
pub record Picked (q : Asked) (g : ℤ → ℤ → ℕ) (src : List ℕ) (s : ℕ) : Type 0 where
  pub rows : Rows (length src) s (window_side q.kind q.w) (window_side q.kind q.h)
  pub same : (i j a b : ℕ) → i < q.w → j < q.h → a < window_side q.kind 1 → b < window_side q.kind 1
      → around_part q.kind src s i j a b ≡ around_at (before q.kind) g q.x q.y i j a b

module _ (p : LentPlane) (q : Asked) (scratch : List ℕ) (e : lowest (window_tests p q (length scratch)) ≡ 0) where
  abbrev answer : Part
  answer = window_of p q (length scratch)

  abbrev part : List ℕ
  part = part_of answer p.plane (scratch_of 0 p q scratch)

  abbrev area : Area
  area = area_of p q

  pub part_shows : Shows part answer.stride area.ww area.wh (edge p.plane p.stride (lent_w p) (lent_h p) area.left area.top)
  unfolding window_of scratch_of or_same
  part_shows =
      let r = window_ready p q (length scratch) e in
      rw e (by-plane area p.plane scratch r (own_plane p q) (planes_met q.mode area))

  -- it is long enough, and its stride carries the window's row
  pub part-rows : Rows (length part) answer.stride area.ww area.wh
  part-rows = part_shows.rows

  -- the window law
  pub part-pixel : (i j : ℕ) → i < area.ww → j < area.wh
      → pixel part answer.stride i j ≡ plane_of p (area.left +ℤ pos i) (area.top +ℤ pos j)
  unfolding edge
  part-pixel i j a b = part_shows.same i j a b

  -- the pixels around a place of the block
  pub part-around : (i j a b : ℕ) → i < q.w → j < q.h → a < window_side q.kind 1 → b < window_side q.kind 1
      → around_part q.kind part answer.stride i j a b ≡ around_at (before q.kind) (plane_of p) q.x q.y i j a b
  unfolding around around_at
  part-around i j a b wi hj ka kb =
      ap (λ (k : ℕ). get_or part k 0) (omega arith) ∙ part-pixel (i + a) (j + b) (omega arith) (omega arith)

  -- the same of what the two calls gave: the answer r, scratch as it was filled, and the part picked from it
  pub picked : (r : Part) (filled src : List ℕ) → r ≡ answer → filled ≡ scratch_of r.number p q scratch → src ≡ part_of r p.plane filled
      → Picked q (plane_of p) src r.stride
  picked r filled src is full from =
      let n : r.number ≡ 0 = ap (λ (v : Part). v.number) is ∙ window_number p q (length scratch) ∙ e in
      let k : filled ≡ scratch_of 0 p q scratch = full ∙ ap (λ (m : ℕ). scratch_of m p q scratch) n in
      rw (from, k, is) (record { rows = part-rows; same = part-around })
