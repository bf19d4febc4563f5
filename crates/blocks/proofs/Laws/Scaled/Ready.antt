-- Scaled blocks: the tests in two parts, of numbers and of buffers, and what they tell where none refuses. Assumes nothing.
use Rattle.blocks.proofs.Usual.{true, Bool, false, List, [], ◌∷◌, ◌≡◌, refl, ℕ, ◌≤◌, ◌*◌, ◌+◌, ◌-◌, ◌<◌, ◌%◌, min, mul-le-mul_right, add-mul}
use Rattle.blocks.proofs.Usual.{arith, leb-true, eqb-true, leb, eqb, pos, ℤ, negsuc, bits_of, up, lowest, Test, ◌asks◌, block_side, stride, size, number}
use Rattle.blocks.proofs.Usual.{read, written, holds, stride_ok, size_ok, Rows, Block, and_true, rows_met, block_met, all_met, stride_met}
use mathlib.Core.Bool.{cond}
use native.Mathlib.Nat.{add-sub_cancel_left, zero-add}
use Rattle.rows.specs.Numbers.{between}
use Rattle.rows.specs.Scaled.{position, pixel_of, sixteenth}
use Rattle.rows.specs.inner.Scaled.{Steps}
use Rattle.blocks.specs.Refuse.{table}
use Rattle.blocks.specs.Subpel.{subpel_ok}
use Rattle.blocks.specs.Scaled.{start_ok, step_ok, scaled_type_ok, column_read, reads_scaled, scaled_tests}
use Rattle.blocks.specs.inner.Scaled.{scaled_plan, Filtered, Paired}
use Rattle.blocks.specs.inner.Source.{top_down, row_first}
use Rattle.blocks.proofs.Laws.Loops.Stands.{stood_from}
use Rattle.blocks.proofs.Laws.Calls.Refuse.{both_met, reads_met, met_reads, reads_past}
use Rattle.blocks.proofs.Laws.Subpel.Ready.{family-le}
use Rattle.blocks.proofs.Laws.Warp.Corners.{every-at}
use Rattle.rows.specs.Warp.{every}

-- ---- all of n are true
pub every-none : (n : ℕ) (g : ℕ → Bool) (x : ℕ) → x < n → g x ≡ false → every n g ≡ false
every-none n g x b e = by_test (every n g) (λ h. cc (every-at n g h x b)) where
  by_test : (a : Bool) → (a ≡ true → a ≡ false) → a ≡ false
  by_test true f = f refl
  by_test false f = refl

-- ---- the tests of sizes, strides, numbers and tables come first
abbrev pub number_tests : (deep typed tabled : Bool) (ds ss w h : ℕ) (mx my dx dy : ℤ) → List Test
number_tests deep typed tabled ds ss w h mx my dx dy =
    size asks size_ok block_side w
    ∷ size asks size_ok block_side h
    ∷ stride asks stride_ok w ds
    ∷ stride asks stride_ok w ss
    ∷ number asks deep
    ∷ number asks start_ok mx
    ∷ number asks start_ok my
    ∷ number asks step_ok dx
    ∷ number asks step_ok dy
    ∷ number asks typed
    ∷ table asks tabled
    ∷ []

pub record NumbersMet (isDeep isTyped isTabled : Bool) (ds ss w h : ℕ) (mx my dx dy : ℤ) : Type 0 where
  pub deep : isDeep ≡ true
  pub typed : isTyped ≡ true
  pub tabled : isTabled ≡ true
  pub block : Block w h
  pub apart : stride_ok w ds ≡ true
  pub wide : w ≤ ss
  pub most : ss ≤ 32768
  pub across : Steps (up mx) (up dx)
  pub down : Steps (up my) (up dy)

up_le : (n : ℕ) (v : ℤ) → between (pos 0) (pos n) v ≡ true → up v ≤ n
up_le n (pos v) e = leb-true v n (and_true (leb 0 v) (leb v n) e).1
up_le n (negsuc v) e = omega arith

steps_met : (start step : ℤ) → start_ok start ≡ true → step_ok step ≡ true → Steps (up start) (up step)
unfolding start_ok step_ok
steps_met start step a b = (up_le 1023 start a, up_le 4096 step b)

pub numbers_met : (deep typed tabled : Bool) (ds ss w h : ℕ) (mx my dx dy : ℤ) → lowest (number_tests deep typed tabled ds ss w h mx my dx dy) ≡ 0
    → NumbersMet deep typed tabled ds ss w h mx my dx dy
numbers_met deep typed tabled ds ss w h mx my dx dy e =
    let m = all_met (number_tests deep typed tabled ds ss w h mx my dx dy) e in
    let strides = m.1.1 in
    let motion = strides.1.1.1 in
    let tables = motion.1.1.1.1 in
    let p = stride_met w ss strides.1.0 in
    record {
      deep = strides.1.1.0;
      typed = tables.0;
      tabled = tables.1.0;
      block = block_met w h m.0 m.1.0;
      apart = strides.0;
      wide = p.0;
      most = p.1;
      across = steps_met mx dx motion.0 motion.1.1.0;
      down = steps_met my dy motion.1.0 motion.1.1.1.0;
    }

-- ---- then those of the buffers
pub record ScaledMet (taps isDeep isTyped isTabled : Bool) (dl ds sl o ss w h : ℕ) (mx my dx dy : ℤ) : Type 0 where
  pub deep : isDeep ≡ true
  pub typed : isTyped ≡ true
  pub tabled : isTabled ≡ true
  pub block : Block w h
  pub rows : Rows dl ds w h
  pub wide : w ≤ ss
  pub most : ss ≤ 32768
  pub across : Steps (up mx) (up dx)
  pub down : Steps (up my) (up dy)
  pub reads : reads_scaled taps sl o ss w h mx my dx dy ≡ true

pub scaled_ready : {taps deep typed tabled : Bool} {dl ds sl o ss w h : ℕ} {mx my dx dy : ℤ}
    → lowest (scaled_tests taps deep typed tabled dl ds sl o ss w h mx my dx dy) ≡ 0 → ScaledMet taps deep typed tabled dl ds sl o ss w h mx my dx dy
scaled_ready {taps} {deep} {typed} {tabled} {dl} {ds} {sl} {o} {ss} {w} {h} {mx} {my} {dx} {dy} e =
    let buffers = read asks reads_scaled taps sl o ss w h mx my dx dy ∷ written asks holds dl ds w h ∷ [] in
    let b = both_met (number_tests deep typed tabled ds ss w h mx my dx dy) (lowest buffers) e in
    let n = numbers_met deep typed tabled ds ss w h mx my dx dy b.0 in
    let m = all_met buffers b.1 in
    record {
      deep = n.deep;
      typed = n.typed;
      tabled = n.tabled;
      block = n.block;
      rows = rows_met dl ds w h n.apart m.1.0;
      wide = n.wide;
      most = n.most;
      across = n.across;
      down = n.down;
      reads = m.0;
    }

-- ---- what is fetched for a column at position p, in 1 + h rows and those around them
-- nothing, where its own pixel is past the end
pub column_past : (taps : Bool) (sl o s h p : ℕ) → sl ≤ o + pixel_of p → column_read taps sl o s h p ≡ false
unfolding column_read
column_past true sl o s h p b = reads_past sl (o + pixel_of p) s 1 h _ _ 3 4 b
column_past false sl o s h p b = reads_past sl (o + pixel_of p) s 1 h 0 1 0 1 b

-- by 8-tap: from three rows above to four below, and as many pixels left and right where the fraction isn't 0
pub record TapsRead (sl o s h p : ℕ) : Type 0 where
  pub before : 3 * s + 3 * min (sixteenth p) 1 ≤ o + pixel_of p
  pub last : o + pixel_of p + (h + 4) * s + 4 * min (sixteenth p) 1 < sl

pub taps_read : (sl o s h p : ℕ) → column_read true sl o s (1 + h) p ≡ true → TapsRead sl o s h p
unfolding column_read
taps_read sl o s h p e =
    let r = reads_met sl (o + pixel_of p) s 1 (1 + h) (3 * min (sixteenth p) 1) (4 * min (sixteenth p) 1) 3 4 e in
    record { before = r.0; last = rw (add-sub_cancel_left, zero-add) at r.1 }

pub read_taps : (sl o s h p : ℕ) → TapsRead sl o s h p → column_read true sl o s (1 + h) p ≡ true
unfolding column_read
read_taps sl o s h p t =
    met_reads sl (o + pixel_of p) s 1 (1 + h) (3 * min (sixteenth p) 1) (4 * min (sixteenth p) 1) 3 4 t.before (rw (add-sub_cancel_left, zero-add) t.last)

-- where row k begins, counted from three rows above
pub row_taps : (h s k : ℕ) → k ≤ h + 7 → k * s ≤ (h + 4) * s + 3 * s
row_taps h s k b = rw (← add-mul (h + 4) 3 s) (mul-le-mul_right s (omega arith))

-- by bilinear: down to the row below, and the pixel to the right
pub pair_read : (sl o s h p : ℕ) → column_read false sl o s (1 + h) p ≡ true → o + pixel_of p + (h + 1) * s + 1 < sl
unfolding column_read
pair_read sl o s h p e = rw add-sub_cancel_left at (reads_met sl (o + pixel_of p) s 1 (1 + h) 0 1 0 1 e).1

pub read_pair : (sl o s h p : ℕ) → o + pixel_of p + (h + 1) * s + 1 < sl → column_read false sl o s (1 + h) p ≡ true
unfolding column_read
read_pair sl o s h p b = met_reads sl (o + pixel_of p) s 1 (1 + h) 0 1 0 1 (omega arith) (rw add-sub_cancel_left b)

-- ---- what the rows rely on
pub filtered_ready : (sl tl o ss w h : ℕ) (mx my dx dy t : ℤ) (B : ℕ) → reads_scaled true sl o ss w h mx my dx dy ≡ true → ss ≤ 32768 → Block w h
    → Steps (up mx) (up dx) → Steps (up my) (up dy) → scaled_type_ok t ≡ true → tl ≡ 600
    → (3 * ss ≤ o) × Filtered sl tl (scaled_plan (top_down (o - 3 * ss) ss) mx my dx dy t w h B) w (pixel_of (position (up my) (up dy) (h - 1)) + 8)
unfolding reads_scaled scaled_type_ok scaled_plan row_first
filtered_ready sl tl o ss w h mx my dx dy t B e most b across down type tl600 =
    let n = pixel_of (position (up my) (up dy) (h - 1)) in
    let column : (x : ℕ) → x < w → TapsRead sl o ss n (position (up mx) (up dx) x) = λ x l. taps_read sl o ss n _ (every-at w _ e x l) in
    let first = column 0 (omega arith) in
    let below : 3 * ss ≤ o = omega (arith, first) in (
      below,
      record {
        w1 = b.w1;
        w64 = b.w64;
        across = across;
        down = down;
        wide = family-le (up t) w (up_le 2 t type);
        high = family-le (up t) h (up_le 2 t type);
        table = tl600;
        rows = stood_from most (omega (arith, first, row_taps n ss (n + 8 - 1) (omega arith)));
        fetched = λ k i r l. let c = column i l in omega (arith, row_taps n ss k (omega arith));
      },
    )

pub paired_ready : (sl o ss w h : ℕ) (mx my dx dy t : ℤ) (B : ℕ) → reads_scaled false sl o ss w h mx my dx dy ≡ true → ss ≤ 32768 → Block w h
    → Steps (up mx) (up dx) → Steps (up my) (up dy) → B % 2 ≡ 0
    → Paired sl (scaled_plan (top_down o ss) mx my dx dy t w h B) w (pixel_of (position (up my) (up dy) (h - 1)) + 2)
unfolding reads_scaled scaled_plan row_first
paired_ready sl o ss w h mx my dx dy t B e most b across down two =
    let n = pixel_of (position (up my) (up dy) (h - 1)) in
    record {
      w1 = b.w1;
      w64 = b.w64;
      across = across;
      down = down;
      even = two;
      rows =
          let m : n + 2 - 1 ≤ n + 1 = omega arith in
          stood_from most (omega (arith, pair_read sl o ss n (position (up mx) (up dx) 0) (every-at w _ e 0 (omega arith)), mul-le-mul_right ss m));
      fetched = λ k i r l.
          let m : k ≤ n + 1 = omega arith in
          omega (arith, pair_read sl o ss n (position (up mx) (up dx) i) (every-at w _ e i l), mul-le-mul_right ss m);
    }

-- ---- what the rows rely on where no test refuses

-- B is 2 or 4
pub even_bits : (depth : ℕ) → bits_of depth % 2 ≡ 0
even_bits depth = go (eqb depth 12) where
  go : (t : Bool) → cond t 2 4 % 2 ≡ 0
  go true = refl
  go false = refl

module _ {deep : Bool} {dl ds sl o ss w h : ℕ} {mx my dx dy : ℤ} where
  pub taps_met : (t : ℤ) (tl : ℕ) → ScaledMet true deep (scaled_type_ok t) (subpel_ok tl) dl ds sl o ss w h mx my dx dy → (B : ℕ)
      → (3 * ss ≤ o) × Filtered sl tl (scaled_plan (top_down (o - 3 * ss) ss) mx my dx dy t w h B) w (pixel_of (position (up my) (up dy) (h - 1)) + 8)
  unfolding subpel_ok
  taps_met t tl m B = filtered_ready sl tl o ss w h mx my dx dy t B m.reads m.most m.block m.across m.down m.typed (eqb-true tl 600 m.tabled)

  pub pairs_met : {typed tabled : Bool} → ScaledMet false deep typed tabled dl ds sl o ss w h mx my dx dy → (t : ℤ) (B : ℕ) → B % 2 ≡ 0
      → Paired sl (scaled_plan (top_down o ss) mx my dx dy t w h B) w (pixel_of (position (up my) (up dy) (h - 1)) + 2)
  pairs_met m t B two = paired_ready sl o ss w h mx my dx dy t B m.reads m.most m.block m.across m.down two
