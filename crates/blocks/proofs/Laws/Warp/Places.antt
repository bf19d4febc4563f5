-- Warp, refusals number 5 and 4. A source is accepted exactly where it holds rows -3 to 11 and columns -3 to 11 around the block of 8 x 8, which are the places
-- of all taps; the table exactly where it holds each of the 184 filters. And the rules read nothing else. Assumes nothing.
use mathlib.Core.Path.{◌≡◌, refl, sym}
use mathlib.Core.Bool.{Bool, true, ◌&&◌, true≢false}
use mathlib.Core.List.{List}
use Prim.Native.Nat.{ℕ, ◌+◌, ◌*◌, ◌/◌, ◌%◌, ◌<◌}
use native.Mathlib.Nat.{zero-add}
use native.Mathlib.Omega.{arith}
use borrow.Author.Tests.{ltb-true, lt-ltb, eqb-true, eq-eqb}
use lib.IntN.{ℤ, pos, negsuc, nat_abs, ◌-ℤ◌}
use lib.ListN.{length}
use Rattle.rows.specs.Places.{around}
use Rattle.rows.specs.Warp.{filter_no, is_there, every, all_there, warp_put, warp_prep}
use Rattle.rows.proofs.Laws.Blocks.Fill.{and_true}
use Rattle.rows.proofs.Laws.Cut.Local.{Agree, warp_put_local, warp_prep_local}
use Rattle.blocks.specs.Refuse.{reads, whole_filters}
use Rattle.blocks.specs.Warp.{warp_tests}
use Rattle.blocks.proofs.Laws.Calls.Given.{met}
use Rattle.blocks.proofs.Laws.Loops.Places.{place_of, InBuffer, standing, tap_at, around-stands, reads_range, range_reads}
use Rattle.blocks.proofs.Laws.Warp.Corners.{every-at, all_every}

-- ---- the source: column x - 3 and row y - 3 from the block's first pixel, which is at place o
abbrev pub FifteenInside : (sl o s : ℕ) → Type 0
FifteenInside sl o s = (x y : ℕ) → x < 15 → y < 15 → InBuffer sl (place_of o s (pos x -ℤ pos 3) (pos y -ℤ pos 3))

-- tap a across and b down, of column i of row j
abbrev pub TapsInside : (sl o s : ℕ) → Type 0
TapsInside sl o s = (i j a b : ℕ) → i < 8 → j < 8 → a < 8 → b < 8 → InBuffer sl (tap_at 3 o s i j a b)

-- a tap is one of the fifteen rows and columns
pub fifteen_taps : (sl o s : ℕ) → FifteenInside sl o s → TapsInside sl o s
fifteen_taps sl o s f i j a b p q u v = f (i + a) (j + b) (omega arith) (omega arith)

module _ (deep : Bool) (dl ds sl s o : ℕ) (a b c d mx my : ℤ) (tl : ℕ) where
  -- accepted: the fifteen are inside, so the taps are, so it is accepted
  pub accepted_inside : met 5 (warp_tests deep dl ds sl s o a b c d mx my tl) ≡ true → FifteenInside sl o s
  unfolding reads
  accepted_inside e x y p q =
      let r = and_true (reads sl o s 8 8 3 4 3 4) true e in
      let i = reads_range 3 sl o s 1 1 3 11 3 11 r.0 0 0 x y (omega arith) (omega arith) (omega arith) (omega arith) in
      rw (zero-add x, zero-add y) at i

  pub inside_accepted : TapsInside sl o s → met 5 (warp_tests deep dl ds sl s o a b c d mx my tl) ≡ true
  inside_accepted f =
      let e = range_reads 3 sl o s 8 8 3 4 3 4 (omega arith) (omega arith) (omega arith) (omega arith)
      (λ i j x y p q u v. f i j x y p q (omega arith) (omega arith)) in
      rw e refl

-- so an accepted call's pixel is the rule on what stands at these places, whatever d₀ stands outside of the source
module _ (src : List ℕ) (o s : ℕ) (all : TapsInside (length src) o s) (d₀ : ℤ → ℕ) (i j : ℕ) (p : i < 8) (q : j < 8) where
  same : Agree 8 (around 3 src o s i j) (λ u v. standing d₀ src (tap_at 3 o s i j u v))
  same u v k l = around-stands 3 o s i j u v d₀ src (all i j u v p q k l)

  pub put-stands : (M B : ℕ) (warp : List ℤ) (mx my a b c d : ℤ) → warp_put M B warp mx my a b c d i j (around 3 src o s i j)
      ≡ warp_put M B warp mx my a b c d i j (λ u v. standing d₀ src (tap_at 3 o s i j u v))
  put-stands M B warp mx my a b c d = warp_put_local _ _ M B warp mx my a b c d i j same

  pub prep-stands : (B P : ℕ) (warp : List ℤ) (mx my a b c d : ℤ) → warp_prep B P warp mx my a b c d i j (around 3 src o s i j)
      ≡ warp_prep B P warp mx my a b c d i j (λ u v. standing d₀ src (tap_at 3 o s i j u v))
  prep-stands B P warp mx my a b c d = warp_prep_local _ _ B P warp mx my a b c d i j same

-- ---- the table of n filters: a filter's number, a whole number too, is one from 0 to n - 1
there_in : (n : ℕ) (z : ℤ) → is_there n z ≡ true → InBuffer n z
unfolding is_there
there_in n (pos k) e = ltb-true k n e
there_in n (negsuc k) e = absurd (true≢false (sym e))

in_there : (n : ℕ) (z : ℤ) → InBuffer n z → is_there n z ≡ true
unfolding is_there
in_there n (pos k) h = lt-ltb k n h
in_there n (negsuc k) h = absurd h

-- 15 rows of the first pass and 8 of the second, of 8 columns each
abbrev pub FiltersInside : (n : ℕ) (mx my a b c d : ℤ) → Type 0
FiltersInside n mx my a b c d =
    ((r i : ℕ) → r < 15 → i < 8 → InBuffer n (filter_no mx a b r i)) × ((r i : ℕ) → r < 8 → i < 8 → InBuffer n (filter_no my c d r i))

module _ (n : ℕ) (mx my a b c d : ℤ) where
  pub there-filters : all_there n mx my a b c d ≡ true → FiltersInside n mx my a b c d
  unfolding all_there
  there-filters e =
      let p = and_true (every 15 (λ r. every 8 (λ i. is_there n (filter_no mx a b r i)))) (every 8 (λ r. every 8 (λ i. is_there n (filter_no my c d r i)))) e in (
        (λ r i u v. there_in n (filter_no mx a b r i) (every-at 8 _ (every-at 15 _ p.0 r u) i v)),
        (λ r i u v. there_in n (filter_no my c d r i) (every-at 8 _ (every-at 8 _ p.1 r u) i v)),
      )

  pub filters-there : FiltersInside n mx my a b c d → all_there n mx my a b c d ≡ true
  unfolding all_there
  filters-there f =
      let p = all_every 15 (λ r. every 8 (λ i. is_there n (filter_no mx a b r i)))
      (λ r u. all_every 8 _ (λ i v. in_there n (filter_no mx a b r i) (f.0 r i u v))) in
      let q = all_every 8 (λ r. every 8 (λ i. is_there n (filter_no my c d r i)))
      (λ r u. all_every 8 _ (λ i v. in_there n (filter_no my c d r i) (f.1 r i u v))) in
      rw (p, q) refl

-- number 4 asks this, and that the table's filters are whole
module _ (deep : Bool) (dl ds sl s o : ℕ) (a b c d mx my : ℤ) (tl : ℕ) where
  pub table-inside : met 4 (warp_tests deep dl ds sl s o a b c d mx my tl) ≡ true → (tl % 8 ≡ 0) × FiltersInside (tl / 8) mx my a b c d
  unfolding whole_filters
  table-inside e =
      let p = and_true (whole_filters tl) (all_there (tl / 8) mx my a b c d && true) e in
      let q = and_true (all_there (tl / 8) mx my a b c d) true p.1 in
      (eqb-true (tl % 8) 0 p.0, there-filters (tl / 8) mx my a b c d q.0)

  pub inside-table : tl % 8 ≡ 0 → FiltersInside (tl / 8) mx my a b c d → met 4 (warp_tests deep dl ds sl s o a b c d mx my tl) ≡ true
  unfolding whole_filters
  inside-table e f = rw (eq-eqb (tl % 8) 0 e, filters-there (tl / 8) mx my a b c d f) refl

-- a filter that is there is the one of that number, and its eight bytes are the table's: the rule's absolute value hides no number below 0
pub filter-stands : (tl : ℕ) (z : ℤ) (t : ℕ) → InBuffer (tl / 8) z → t < 8 → (z ≡ pos (nat_abs z)) × (8 * nat_abs z + t < tl)
filter-stands tl (pos k) t h l = (refl, omega arith)
filter-stands tl (negsuc k) t h l = absurd h
