-- `emu_edge`: what its number 0 gives, and its rows. Assumes nothing.
use Rattle.blocks.proofs.Usual.{true, Bool, false, ◌&&◌, List, ◌≡◌, ◌∙◌, refl, sym, ap, ℕ, ◌≤◌, ◌*◌, ◌+◌, ◌-◌, ◌<◌, ◌^◌, suc, arith, leb-true, leb, pos}
use Rattle.blocks.proofs.Usual.{ℤ, negsuc, nat_abs, ◌+ℤ◌, ◌-ℤ◌, get_or, le_z, w64, SFits, to_z, of_z, clip, row_of, lowest, back, backn, fit_abs, eq_of}
use Rattle.blocks.proofs.Usual.{sub_parts, rows_met, all_met, size_met, row_in}
use lib.Dec.{leb-suc-suc}
use Rattle.rows.specs.Numbers.{is_within}
use Rattle.rows.proofs.Laws.Numbers.Signed.{abs-add, clip-up}
use Rattle.blocks.specs.inner.Ready.{Fetch}
use Rattle.blocks.specs.inner.Source.{top_down, row_first, edge_in}
use Rattle.blocks.proofs.Laws.Loops.Stands.{StoodRow, stood_row, stood_rows}
use Rattle.blocks.specs.declared.frame.Area.{Area}
use Rattle.blocks.specs.declared.source.Stand.{Stand}
use Rattle.blocks.specs.Edge.{place_ok, edge_tests}

-- ---- positions
and_of_true : (a : Bool) → a && true ≡ a
and_of_true true = refl
and_of_true false = refl

-- from -(m + 1) to m + 1 is within m + 1 of 0
pub within_both : (m : ℕ) (z : ℤ) → le_z (negsuc m) z && le_z z (pos (suc m)) ≡ is_within (suc m) z
within_both m (pos n) = refl
within_both m (negsuc n) = and_of_true (leb n m) ∙ sym (leb-suc-suc n m)

pub place_met : (x : ℤ) → place_ok x ≡ true → nat_abs x ≤ 2 ^ 30
unfolding place_ok
place_met x e = leb-true (nat_abs x) (2 ^ 30) e

-- ---- what the rows rely on, also of a window that starts up to 3 before a position
pub edge_ready : {bw bh iw ih : ℕ} {x y : ℤ} {dl ds pl ps : ℕ} → lowest (edge_tests bw bh iw ih x y dl ds pl ps) ≡ 0
    → Fetch (record { ww = bw; wh = bh; iw = iw; ih = ih; left = x; top = y }) dl ds pl (top_down 0 ps)
edge_ready {bw} {bh} {iw} {ih} {x} {y} {dl} {ds} {pl} {ps} e =
    let (width, (height, (across, (down, (dst, (plane, others)))))) = all_met (edge_tests bw bh iw ih x y dl ds pl ps) e in
    let (column, (row, (read, (written, none)))) = others in
    let a = size_met 128 bw width in
    let b = size_met 128 bh height in
    let c = size_met 16384 iw across in
    let d = size_met 16384 ih down in
    let rows = rows_met pl ps iw ih plane read in
    record {
      area = record {
        ww1 = a.0;
        ww128 = a.1;
        wh1 = b.0;
        wh128 = b.1;
        iw1 = c.0;
        iw14 = c.1;
        ih1 = d.0;
        ih14 = d.1;
        left = omega (arith, place_met x column);
        top = omega (arith, place_met y row);
      };
      dst = rows_met dl ds bw bh dst written;
      wide = omega (arith, rows);
      plane = stood_rows rows;
    }

-- ---- a turn at row j
-- y + j, as the machine has it
pub record Below (y : ℤ) (j : ℕ) : Type 0 where
  pub fits : SFits w64 (to_z w64 (of_z w64 y) +ℤ to_z w64 j)
  pub is : to_z w64 (of_z w64 (to_z w64 (of_z w64 y) +ℤ to_z w64 j)) -ℤ pos 0 ≡ y +ℤ pos j
  pub nearest : nat_abs (to_z w64 (of_z w64 (to_z w64 (of_z w64 y) +ℤ to_z w64 j))) ≤ 2 ^ 31

less_none : (z : ℤ) → z -ℤ pos 0 ≡ z
less_none z = eq_of _ _ (omega (arith, sub_parts z (pos 0)))

pub below : {y : ℤ} {j : ℕ} → SFits w64 y → nat_abs y ≤ 2 ^ 30 + 3 → j < 128 → Below y j
below {y} {j} f n b =
    let e : to_z w64 (of_z w64 y) +ℤ to_z w64 j ≡ y +ℤ pos j = rw (back f, backn w64 j (omega arith)) refl in
    let k : nat_abs (y +ℤ pos j) ≤ 2 ^ 31 = omega (arith, abs-add y (pos j)) in
    let g : SFits w64 (y +ℤ pos j) = fit_abs w64 (y +ℤ pos j) (omega arith) in
    record { fits = rw e g; is = rw (e, back g) (less_none (y +ℤ pos j)); nearest = rw (e, back g) k }

pub clip_below : (ih : ℕ) (z : ℤ) → 1 ≤ ih → clip (ih - 1) z < ih
clip_below ih z h = omega (arith, clip-up (ih - 1) z)

-- row j is within the block's buffer, row k within the plane
pub turn : {a : Area} {dl ds pl : ℕ} {s : Stand} {j k : ℕ} → Fetch a dl ds pl s → j < a.wh → k < a.ih → (j * ds + a.ww ≤ dl) × StoodRow pl s a.iw k
turn {j} {k} f a b = (row_in j f.dst a, stood_row k f.plane b)

-- the plane's row k, from column x on, is the picture's row j
pub row_is : (plane : List ℕ) (s : Stand) (iw ih : ℕ) (x y : ℤ) (j n : ℕ) {k o : ℕ} {r : List ℕ} → k ≡ clip (ih - 1) (y +ℤ pos j) → o ≡ row_first s k
    → r ≡ row_of n (λ i. get_or plane (o + clip (iw - 1) (x +ℤ pos i)) 0) → r ≡ row_of n (λ i. edge_in plane s iw ih x y i j)
unfolding edge_in
row_is plane s iw ih x y j n e f q = q ∙ ap (λ (m : ℕ). row_of n (λ i. get_or plane (m + clip (iw - 1) (x +ℤ pos i)) 0)) (f ∙ ap (row_first s) e)
