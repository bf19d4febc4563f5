-- `sad_nxn` and `sad_refine_mv`: what their numbers give, sums, and the search. Assumes nothing.
use Rattle.blocks.proofs.Usual.{true, Bool, false, ◌&&◌, List, [], ◌∷◌, ◌≡◌, ◌∙◌, refl, sym, ap, ap₂, ℕ, ◌≤◌, ◌*◌, ◌+◌, ◌-◌, ◌<◌, ◌^◌, ◌/◌, suc, zero}
use Rattle.blocks.proofs.Usual.{mul-le-mul_right, add-mul, arith, eqb-true, ne_eqb, ltb, eqb, pos, ℤ, negsuc, nat_abs, ◌+ℤ◌, ◌-ℤ◌, length, get_or}
use Rattle.blocks.proofs.Usual.{w32, w64, SFits, to_z, of_z, up, dn, px, pixel, lowest, or_same, Rows, Block, back, backn, fit_abs, one-part, add_parts}
use Rattle.blocks.proofs.Usual.{sub_parts, rows_met, block_met, all_met}
use native.Mathlib.Nat.{add-zero, le_trans, div-le_self}
use borrow.Author.Tests.{eqb-false, eq-eqb}
use lib.Dec.{T}
use lib.Signed.{non_neg}
use mir.Val.{Fits}
use Rattle.rows.specs.Numbers.{apart, sum}
use Rattle.rows.specs.Places.{pick}
use Rattle.rows.specs.Search.{row_apart, sad, sad_at, Offset, Best, none, best, better, visit, through, steps, search, answer, centre, refine}
use Rattle.rows.proofs.Laws.Numbers.Signed.{abs_parts, non_neg_of}
use Rattle.blocks.specs.inner.Ready.{Blocks, Wider}
use Rattle.blocks.specs.Search.{sads_tests, refine_tests, RefineAnswer}
use Rattle.blocks.specs.inner.Search.{stand_at}
use Rattle.blocks.specs.inner.Source.{top_down, row_first, pixel_in, Stood}
use Rattle.blocks.proofs.Laws.Calls.Refuse.{made}
use Rattle.blocks.proofs.Laws.Loops.Stands.{StoodRow, stood_row, stood_rows, pixels-down}
use Rattle.blocks.specs.declared.source.Stand.{Stand}

-- ---- what the rows rely on
pub sads_ready : (m : ℕ) {deep : Bool} {l0 s0 l1 s1 w h : ℕ} → lowest (sads_tests m deep l0 s0 l1 s1 w h) ≡ 0
    → Block w h × Rows l0 s0 (w + m) (h + m) × Rows l1 s1 (w + m) (h + m) × (deep ≡ true)
sads_ready m {deep} {l0} {s0} {l1} {s1} {w} {h} e =
    let t = all_met (sads_tests m deep l0 s0 l1 s1 w h) e in
    let r = t.1.1 in
    let b = r.1.1.1 in
    (block_met w h t.0 t.1.0, rows_met l0 s0 (w + m) (h + m) r.0 b.0, rows_met l1 s1 (w + m) (h + m) r.1.0 b.1.0, r.1.1.0)

-- row y of both blocks is within its buffer
pub rows_of : {l0 : ℕ} {s0 : Stand} {l1 : ℕ} {s1 : Stand} {w h : ℕ} (y : ℕ) → Blocks l0 s0 l1 s1 w h → y < h → StoodRow l0 s0 w y × StoodRow l1 s1 w y
rows_of y b lt = (stood_row y b.first lt, stood_row y b.second lt)

-- ---- sums
pub row-apart : (p : List ℕ) (s : Stand) (q : List ℕ) (s' : Stand) (w y : ℕ) {o o' n : ℕ} → o ≡ row_first s y → o' ≡ row_first s' y
    → n ≡ sum w (λ i. apart (px p (o + i)) (px q (o' + i))) → n ≡ row_apart (pixel_in p s) (pixel_in q s') w y
unfolding row_apart
row-apart p s q s' w y a b e = e ∙ ap₂ (λ (m k : ℕ). sum w (λ i. apart (px p (m + i)) (px q (k + i)))) a b

-- blocks that agree for columns below w and rows below h give the same
abbrev pub Agree : (w h : ℕ) (p q : ℕ → ℕ → ℕ) → Type 0
Agree w h p q = (i j : ℕ) → i < w → j < h → p i j ≡ q i j

sum_same : (n : ℕ) (f g : ℕ → ℕ) → ((t : ℕ) → t < n → f t ≡ g t) → sum n f ≡ sum n g
unfolding sum
sum_same zero f g e = refl
sum_same (suc n) f g e = ap₂ (λ (a b : ℕ). a + b) (sum_same n f g (λ t b. e t (omega arith))) (e n (omega arith))

pub sad_same : (depth : ℕ) (p p' q q' : ℕ → ℕ → ℕ) (w h : ℕ) → Agree w h p p' → Agree w h q q' → sad depth p q w h ≡ sad depth p' q' w h
unfolding sad row_apart
sad_same depth p p' q q' w h e f =
    ap (λ (n : ℕ). n / 2 ^ (depth - 8))
    (sum_same ((h + 1) / 2) _ _ λ r b.
    sum_same w _ _ λ i c. ap₂ (λ (u v : ℕ). apart (pos u) (pos v)) (e i (2 * r) c (omega arith)) (f i (2 * r) c (omega arith)))

-- sums are shifted right by depth - 8, which is nothing for bytes
pub sad_shifted : (depth : ℕ) (p q : ℕ → ℕ → ℕ) (w h : ℕ) {n : ℕ} → (n ≡ sum ((h + 1) / 2) (λ r. row_apart p q w (2 * r))) × (n ≤ 2 ^ 28)
    → (n / 2 ^ (depth - 8) ≡ sad depth p q w h) × (n / 2 ^ (depth - 8) ≤ 2 ^ 28)
unfolding sad
sad_shifted depth p q w h {n} e = (ap (λ (m : ℕ). m / 2 ^ (depth - 8)) e.0, le_trans (div-le_self n (2 ^ (depth - 8))) e.1)

-- `sad_nxn`: its blocks, and its sum as it is handed back
pub sad_blocks : {l0 s0 l1 s1 w h : ℕ} → Block w h → Rows l0 s0 (w + 0) (h + 0) → Rows l1 s1 (w + 0) (h + 0) → Blocks l0 (top_down 0 s0) l1 (top_down 0 s1) w h
sad_blocks {l0} {s0} {l1} {s1} {w} {h} b r t =
    let p : Rows l0 s0 w h = rw (add-zero w, add-zero h) at r in
    let q : Rows l1 s1 w h = rw (add-zero w, add-zero h) at t in
    record { w68 = omega (arith, b); h1 = b.h1; h68 = omega (arith, b); first = stood_rows p; second = stood_rows q }

pub sad-done : (depth : ℕ) (p : List ℕ) (s : ℕ) (q : List ℕ) (s' w h : ℕ) {n : ℕ}
    → (n ≡ sad depth (pixel_in p (top_down 0 s)) (pixel_in q (top_down 0 s')) w h) × (n ≤ 2 ^ 28)
    → to_z w32 n ≡ or_same 0 (pos (sad depth (pixel p s) (pixel q s') w h)) (pos 0)
sad-done depth p s q s' w h {n} e =
    backn w32 n (omega (arith, e.1))
    ∙ ap pos (e.0 ∙ ap₂ (λ (a b : ℕ → ℕ → ℕ). sad depth a b w h) (pixels-down (λ x. x) p s) (pixels-down (λ x. x) q s'))
    ∙ made _ _

-- ---- offsets
-- column or row z of 0 to 4
pub record Start (z : ℤ) : Type 0 where
  pub fits : SFits w32 z
  pub from0 : dn z ≡ 0
  pub to4 : up z ≤ 4

start : (z : ℤ) → dn z ≡ 0 → up z ≤ 4 → Start z
start z a b = record { fits = fit_abs w32 z (omega (arith, abs_parts z)); from0 = a; to4 = b }

pub ahead_start : (d : ℤ) → nat_abs d ≤ 2 → Start (pos 2 +ℤ d)
ahead_start d h =
    let z = pos 2 +ℤ d in let p = add_parts (pos 2) d in let q = abs_parts d in let o = one-part z in
    start z (omega (arith, p, q, o)) (omega (arith, p, q, o))

pub behind_start : (d : ℤ) → nat_abs d ≤ 2 → Start (pos 2 -ℤ d)
behind_start d h =
    let z = pos 2 -ℤ d in let p = sub_parts (pos 2) d in let q = abs_parts d in let o = one-part z in
    start z (omega (arith, p, q, o)) (omega (arith, p, q, o))

-- what is cast, and what the cast gives
pub start_cast : {z : ℤ} → Start z → T (non_neg (to_z w32 (of_z w32 z))) × Fits w64 (nat_abs (to_z w32 (of_z w32 z)))
start_cast {z} s = rw (back s.fits) (non_neg_of z s.from0, omega (arith, s, abs_parts z))

pub start_is : {z : ℤ} → Start z → (nat_abs (to_z w32 (of_z w32 z)) ≡ up z) × (nat_abs (to_z w32 (of_z w32 z)) ≤ 4)
start_is {z} s = rw (back s.fits) (omega (arith, s, abs_parts z))

pub start_place : (s : Stand) {x y : ℕ} → x ≤ 4 → y ≤ 4 → (4 * s.back ≤ s.off) × (s.off + 4 * s.forth + 4 < 2 ^ 64)
    → (y * s.back ≤ s.off) × (s.off + y * s.forth + x < 2 ^ 64)
start_place s {x} {y} p q r =
    (omega (arith, r.0, mul-le-mul_right {m = y} {n = 4} s.back q), omega (arith, r.1, mul-le-mul_right {m = y} {n = 4} s.forth q))

-- of a buffer with 8 columns and 8 rows more than a block: the rows with which a block begins there
pub starts_in : {l : ℕ} {s : Stand} (w h : ℕ) → Stood l s (w + 8) (h + 8) → (4 * s.back ≤ s.off) × (s.off + 4 * s.forth + 4 ≤ l)
starts_in w h r = let t = stood_row 4 r (omega arith) in (t.before, omega (arith, t))

-- and a block of 4 columns and 4 rows more, from column x of row y on
part_in : {l : ℕ} {s : Stand} (w h x y : ℕ) → Stood l s (w + 8) (h + 8) → x ≤ 4 → y ≤ 4 → Stood l (stand_at s x y) (w + 4) (h + 4)
unfolding row_first
part_in {l} {s} w h x y r a b =
    let t = stood_row (y + (h + 4 - 1)) r (omega arith) in
    let back = add-mul y (h + 4 - 1) s.back in
    let forth = add-mul y (h + 4 - 1) s.forth in
    record { forth = r.forth; back = r.back; before = omega (arith, t.before, back); after = omega (arith, t.after, forth) }

part-is : (p : List ℕ) {l : ℕ} {s : Stand} (w h x y : ℕ) → Stood l s (w + 8) (h + 8) → y ≤ 4
    → Agree (w + 4) (h + 4) (pixel_in p (stand_at s x y)) (λ i j. pixel_in p s (x + i) (y + j))
unfolding row_first
part-is p {s = s} w h x y r b i j wi hj =
    let t = stood_row (y + j) r (omega arith) in
    ap (λ (k : ℕ). get_or p k 0) (omega (arith, t.before, add-mul y j s.back, add-mul y j s.forth))

pub offset_blocks : {l0 : ℕ} {s0 : Stand} {l1 : ℕ} {s1 : Stand} {w h : ℕ} {t0 t1 : Stand} (dx dy : ℤ) → Wider l0 s0 l1 s1 w h → nat_abs dx ≤ 2 → nat_abs dy ≤ 2
    → t0 ≡ stand_at s0 (up (pos 2 +ℤ dx)) (up (pos 2 +ℤ dy)) → t1 ≡ stand_at s1 (up (pos 2 -ℤ dx)) (up (pos 2 -ℤ dy)) → Blocks l0 t0 l1 t1 (w + 4) (h + 4)
offset_blocks {w = w} {h = h} dx dy k a b p q =
    record {
      w68 = omega (arith, k.block);
      h1 = omega arith;
      h68 = omega (arith, k.block);
      first = rw p (part_in w h _ _ k.first (ahead_start dx a).to4 (ahead_start dy b).to4);
      second = rw q (part_in w h _ _ k.second (behind_start dx a).to4 (behind_start dy b).to4);
    }

-- the sum at an offset
pub offset_sad : (depth : ℕ) (p : List ℕ) (s : Stand) (q : List ℕ) (s' : Stand) (w h : ℕ) (dx dy : ℤ) {t t' : Stand} {n : ℕ}
    → Wider (length p) s (length q) s' w h → nat_abs dx ≤ 2 → nat_abs dy ≤ 2
    → t ≡ stand_at s (up (pos 2 +ℤ dx)) (up (pos 2 +ℤ dy)) → t' ≡ stand_at s' (up (pos 2 -ℤ dx)) (up (pos 2 -ℤ dy))
    → n ≡ sad depth (pixel_in p t) (pixel_in q t') (w + 4) (h + 4) → n ≡ sad_at depth (pixel_in p s) (pixel_in q s') w h (record { dx = dx; dy = dy })
unfolding sad_at
offset_sad depth p s q s' w h dx dy k x y a b e =
    e
    ∙ ap₂ (λ (m n : Stand). sad depth (pixel_in p m) (pixel_in q n) (w + 4) (h + 4)) a b
    ∙ sad_same depth _ _ _ _ (w + 4) (h + 4) (part-is p w h _ _ k.first (ahead_start dy y).to4) (part-is q w h _ _ k.second (behind_start dy y).to4)

zero_bits : {z : ℤ} → SFits w32 z → of_z w32 z ≡ 0 → nat_abs z ≡ 0
zero_bits f h = ap nat_abs (sym (back f) ∙ ap (to_z w32) h)

bits_zero : (z : ℤ) → nat_abs z ≡ 0 → of_z w32 z ≡ 0
bits_zero (pos n) e = ap (λ (m : ℕ). of_z w32 (pos m)) e
bits_zero (negsuc n) e = absurd (omega arith)

-- both parts are 0 where their bits are
pub centre-is : (x y : ℤ) → SFits w32 x → SFits w32 y → eqb (of_z w32 x) 0 && eqb (of_z w32 y) 0 ≡ eqb (nat_abs x + nat_abs y) 0
centre-is x y f g = go (eqb (of_z w32 x) 0) (eqb (of_z w32 y) 0) refl refl where
  go : (a b : Bool) → eqb (of_z w32 x) 0 ≡ a → eqb (of_z w32 y) 0 ≡ b → a && b ≡ eqb (nat_abs x + nat_abs y) 0
  go true true p q = sym (eq-eqb (nat_abs x + nat_abs y) 0 (omega (arith, zero_bits f (eqb-true _ _ p), zero_bits g (eqb-true _ _ q))))
  go true false p q = sym (ne_eqb (nat_abs x + nat_abs y) 0 λ e. eqb-false _ _ q (bits_zero y (omega arith)))
  go false b p q = sym (ne_eqb (nat_abs x + nat_abs y) 0 λ e. eqb-false _ _ p (bits_zero x (omega arith)))

-- ---- the search
module _ (s : Offset → ℕ) (dx dy : ℤ) where
  pub visit-centre : (b : Best) → eqb (nat_abs dx + nat_abs dy) 0 ≡ true → b ≡ visit s dy dx b
  unfolding visit
  visit-centre b e = rw e refl

  pub visit_other : (b m : Best) (n : ℕ) → eqb (nat_abs dx + nat_abs dy) 0 ≡ false → n ≡ s (record { dx = dx; dy = dy })
      → m ≡ better b n (record { dx = dx; dy = dy }) → m ≡ visit s dy dx b
  unfolding visit
  visit_other b m n e q p = rw e (p ∙ ap (λ (k : ℕ). better b k (record { dx = dx; dy = dy })) q)

-- five calls are the five steps
pub five : (f : ℤ → Best → Best) {a b c d e g : Best} → b ≡ f (negsuc 1) a → c ≡ f (negsuc 0) b → d ≡ f (pos 0) c → e ≡ f (pos 1) d → g ≡ f (pos 2) e
    → g ≡ through steps f a
unfolding through
five f p q r s t = t ∙ ap (f (pos 2)) (s ∙ ap (f (pos 1)) (r ∙ ap (f (pos 0)) (q ∙ ap (f (negsuc 0)) p)))

-- 2 (w + 4) (h + 4) is small
pub enough-fits : {w h : ℕ} → Block w h → 2 * (w + 4) * (h + 4) ≤ 2 * 68 * 68
enough-fits {w} {h} b = omega (arith, b, mul-le-mul_right {m = 2 * (w + 4)} {n = 2 * 68} (h + 4) (omega (arith, b)))

module _ (depth : ℕ) (p q : ℕ → ℕ → ℕ) (w h : ℕ) where
  pub refine_explicit : {m : Best} → m ≡ search (sad_at depth p q w h) none → answer m ≡ refine depth false p q w h
  unfolding refine
  refine_explicit e = ap answer e

  module _ {n kept : ℕ} (e : n ≡ sad_at depth p q w h centre) (k : kept ≡ (7 * n + 7) / 2 ^ 3) where
    kept_is : kept ≡ (7 * sad_at depth p q w h centre + 7) / 2 ^ 3
    kept_is = k ∙ ap (λ (m : ℕ). (7 * m + 7) / 2 ^ 3) e

    pub refine-at_once : ltb kept (2 * (w + 4) * (h + 4)) ≡ true → centre ≡ refine depth true p q w h
    unfolding refine
    refine-at_once t = rw (rw kept_is at t) refl

    pub refine_searched : {m : Best} → ltb kept (2 * (w + 4) * (h + 4)) ≡ false → m ≡ search (sad_at depth p q w h) (best kept centre)
        → answer m ≡ refine depth true p q w h
    unfolding refine
    refine_searched t g = rw (rw kept_is at t) (ap answer (rw kept_is at g))

-- ---- what the rows of `sad_refine_mv` rely on, and its answer as it is handed back
pub refine_ready : (deep : Bool) {l0 s0 l1 s1 w h : ℕ} → lowest (refine_tests deep l0 s0 l1 s1 w h) ≡ 0 → Wider l0 (top_down 0 s0) l1 (top_down 0 s1) w h
refine_ready deep {l0} {s0} {l1} {s1} {w} {h} e =
    let r = sads_ready 8 e in record { block = r.0; first = stood_rows r.1; second = stood_rows r.2 }

pub refine-down : (depth : ℕ) (isImplicit : Bool) (p : List ℕ) (s : ℕ) (q : List ℕ) (s' w h : ℕ) {o : Offset}
    → o ≡ refine depth isImplicit (pixel_in p (top_down 0 s)) (pixel_in q (top_down 0 s')) w h → o ≡ refine depth isImplicit (pixel p s) (pixel q s') w h
refine-down depth isImplicit p s q s' w h e =
    e ∙ ap₂ (λ (a b : ℕ → ℕ → ℕ). refine depth isImplicit a b w h) (pixels-down (λ x. x) p s) (pixels-down (λ x. x) q s')

pub refine-done : {x y : ℤ} {o : Offset} → SFits w32 x → SFits w32 y → record { dx = x; dy = y } ≡ o
    → record { dx = to_z w32 (of_z w32 x); dy = to_z w32 (of_z w32 y) } ≡ or_same 0 o centre
refine-done f g e = rw (back f, back g) (e ∙ made _ _)

-- ---- explicit refinement never answers (0, 0): the first offset visited is taken, the centre never is, so what is found is off the centre
abbrev Off : Best → Type 0
Off none = ⊥
Off (best t o) = nat_abs o.dx + nat_abs o.dy ≡ 0 → ⊥

off_pick : (t : Bool) (b c : Best) → Off b → Off c → Off (pick t b c)
off_pick true b c p q = p
off_pick false b c p q = q

off_better : (b : Best) (s : ℕ) (o : Offset) → (nat_abs o.dx + nat_abs o.dy ≡ 0 → ⊥) → Off b → Off (better b s o)
unfolding better
off_better none s o h p = h
off_better (best t q) s o h p = off_pick (ltb s t) (best s o) (best t q) h p

off_visit : (s : Offset → ℕ) (dy dx : ℤ) (b : Best) → Off b → Off (visit s dy dx b)
unfolding visit
off_visit s dy dx b p = go (eqb (nat_abs dx + nat_abs dy) 0) refl where
  go : (t : Bool) → eqb (nat_abs dx + nat_abs dy) 0 ≡ t → Off (pick t b (better b (s (record { dx = dx; dy = dy })) (record { dx = dx; dy = dy })))
  go true e = p
  go false e = off_better b _ (record { dx = dx; dy = dy }) (eqb-false (nat_abs dx + nat_abs dy) 0 e) p

off_through : (ds : List ℤ) (f : ℤ → Best → Best) → ((d : ℤ) (b : Best) → Off b → Off (f d b)) → (b : Best) → Off b → Off (through ds f b)
unfolding through
off_through [] f k b p = p
off_through (d ∷ ds) f k b p = off_through ds f k (f d b) (k d b p)

-- the first offset, (-2, -2), is found whatever its sum
off_first : (s : Offset → ℕ) → Off (visit s (negsuc 1) (negsuc 1) none)
unfolding visit better
off_first s = eqb-false 4 0 refl

abbrev later : List ℤ
later = negsuc 0 ∷ pos 0 ∷ pos 1 ∷ pos 2 ∷ []

off_search : (s : Offset → ℕ) → Off (search s none)
unfolding search through
off_search s =
    off_through later (λ dy. through steps (visit s dy)) (λ dy. off_through steps (visit s dy) (off_visit s dy)) _
    (off_through later (visit s (negsuc 1)) (off_visit s (negsuc 1)) _ (off_first s))

off_answer : (b : Best) → Off b → answer b ≡ centre → ⊥
unfolding answer
off_answer none p e = elim p [ ]
off_answer (best t o) p e = p (ap (λ (c : Offset). nat_abs c.dx + nat_abs c.dy) e)

pub explicit_moves : (depth : ℕ) (p q : ℕ → ℕ → ℕ) (w h : ℕ) → refine depth false p q w h ≡ centre → ⊥
unfolding refine
explicit_moves depth p q w h e = off_answer (search (sad_at depth p q w h) none) (off_search (sad_at depth p q w h)) e

-- so where an explicit call is accepted, its dx and dy are not both 0
pub explicit_answer : (deep : Bool) (depth : ℕ) (p : List ℕ) (s : ℕ) (q : List ℕ) (s' w h : ℕ) (x y : ℤ)
    → RefineAnswer deep depth p s q s' w h false 0 x y → x ≡ pos 0 → y ≡ pos 0 → ⊥
unfolding or_same
explicit_answer deep depth p s q s' w h x y a e f =
    explicit_moves depth (pixel p s) (pixel q s') w h (sym a.1 ∙ ap₂ (λ (i j : ℤ). record { dx = i; dy = j }) e f)
