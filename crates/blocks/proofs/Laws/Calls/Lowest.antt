-- "The lowest number that applies is given." Where tests stand in order, the number of the first that isn't met is the least of all that apply; and so
-- for each entry. Assumes nothing.
use mathlib.Core.Path.{◌≡◌, refl, sym, subst, ◌∙◌}
use mathlib.Core.Bool.{Bool, true, false, true≢false}
use mathlib.Core.List.{List, [], ◌∷◌}
use mathlib.Core.Logic.{◌⊎◌, ◌↔◌, inl, inr, ⊎_elim}
use Prim.Native.Nat.{ℕ, zero, suc, ◌≤◌}
use native.Mathlib.Omega.{arith}
use borrow.Author.Tests.{leb-true}
use lib.Dec.{leb}
use lib.IntN.{ℤ}
use lib.ListN.{length}
use Rattle.rows.proofs.Laws.Blocks.Fill.{and_true}
use Rattle.blocks.proofs.Laws.Calls.Refuse.{Met, all_met, met_all}
use Rattle.blocks.proofs.Laws.Calls.InOrder.{put_order, prep_order, combine_order, blend_order, morph_order, edge_order, subpel_order, bilin_order}
use Rattle.blocks.proofs.Laws.Calls.InOrder.{scaled_order, w-mask_order, sads_order, warp_order, divisor_order, shear_order, affine_mv_order}
use Rattle.blocks.proofs.Laws.Calls.InOrder.{window_order, row_order, order_order}
use Rattle.blocks.proofs.Laws.Window.Ready.{window_number}
use Rattle.blocks.specs.Refuse.{Reason, size, stride, number, table, read, written, above64, matrix, number_of, rank_of}
use Rattle.blocks.specs.Refuse.{Test, ◌asks◌, need, lowest, in_order, or_same}
use Rattle.blocks.specs.Copy.{put_tests, prep_tests}
use Rattle.blocks.specs.Combine.{combine_tests}
use Rattle.blocks.specs.Blend.{blend_tests, morph_tests}
use Rattle.blocks.specs.Edge.{edge_tests}
use Rattle.blocks.specs.Subpel.{subpel_tests}
use Rattle.blocks.specs.Bilinear.{bilin_tests}
use Rattle.blocks.specs.Scaled.{scaled_tests}
use Rattle.blocks.specs.WMask.{w_mask_tests}
use Rattle.blocks.specs.Search.{sads_tests}
use Rattle.blocks.specs.Warp.{warp_tests}
use Rattle.blocks.specs.Shear.{divisor_tests, shear_tests, affine_mv_tests, divisor_of}
use Rattle.blocks.specs.Window.{LentPlane, Asked, window_tests, window_of, row_tests, row_at}
use Rattle.blocks.specs.Order.{Setting, order_tests}
use Rattle.blocks.specs.declared.order.Order.{Order}
use Rattle.blocks.specs.declared.shear.Divisor.{Divisor}
use Rattle.blocks.specs.declared.window.Part.{Part}

-- a test for the reason isn't met
abbrev pub Fails : Reason → List Test → Type 0
Fails r [] = ⊥
Fails r (t ∷ ts) = ((t.reason ≡ r) × (t.meets ≡ false)) ⊎ Fails r ts

-- the number n applies: a test isn't met for a reason that has it
abbrev pub Applies : ℕ → List Test → Type 0
Applies n ts = (r : Reason) × Fails r ts × (number_of r ≡ n)

-- what is promised of the number n that is given: where any number applies, n does, and none that does is lower; n is 0 exactly where every test is met
pub record IsLowest (n : ℕ) (ts : List Test) : Type 0 where
  pub applies : (m : ℕ) → Applies m ts → Applies n ts
  pub least : (m : ℕ) → Applies m ts → n ≤ m
  pub done : (n ≡ 0) ↔ Met ts

-- a test isn't met for the reason r, and none for a reason of a lower rank
pub record IsFirst (r : Reason) (ts : List Test) : Type 0 where
  pub fails : Fails r ts
  pub first : (s : Reason) → Fails s ts → rank_of r ≤ rank_of s

-- ---- by rank: the first

-- tests that stand in order from k on have no rank below k
rank_from : (k : ℕ) (ts : List Test) → in_order k ts ≡ true → (r : Reason) → Fails r ts → k ≤ rank_of r
unfolding in_order
rank_from k [] o r f = absurd f
rank_from k (t ∷ ts) o r f =
    let p = and_true (leb k (rank_of t.reason)) (in_order (rank_of t.reason) ts) o in
    let here = leb-true k (rank_of t.reason) p.0 in
    ⊎_elim (λ e. subst (λ (s : Reason). k ≤ rank_of s) e.0 here) (λ g. omega (arith, here, rank_from (rank_of t.reason) ts p.1 r g)) f

-- a reason that is first has the number that is given
abbrev pub FirstGiven : List Test → Type 0
FirstGiven ts = (r : Reason) × IsFirst r ts × (number_of r ≡ lowest ts)

-- so it is wherever a test isn't met
pub first-given : (k : ℕ) (ts : List Test) → in_order k ts ≡ true → (s : Reason) → Fails s ts → FirstGiven ts
unfolding in_order need
first-given k [] o s f = absurd f
first-given k (t ∷ ts) o s f = go t.meets refl (first-given (rank_of t.reason) ts rest s) where
  rest : in_order (rank_of t.reason) ts ≡ true
  rest = (and_true (leb k (rank_of t.reason)) (in_order (rank_of t.reason) ts) o).1

  here : {r : Reason} → t.reason ≡ r → rank_of t.reason ≤ rank_of r
  here e = rw e (omega arith)

  later : t.meets ≡ true → (r : Reason) → Fails r (t ∷ ts) → Fails r ts
  later e r = ⊎_elim (λ x. absurd (true≢false (sym e ∙ x.1))) λ g. g

  go : (b : Bool) → t.meets ≡ b → (Fails s ts → FirstGiven ts) → (r : Reason) × IsFirst r (t ∷ ts) × (number_of r ≡ need b (number_of t.reason) (lowest ts))
  go false e q =
      (t.reason, record { fails = inl (refl, e); first = λ r. ⊎_elim (λ x. here x.0) (rank_from (rank_of t.reason) ts rest r) }, refl)
  go true e q =
      let g = q (later e s f) in
      (g.0, record { fails = inr g.1.fails; first = λ r x. g.1.first r (later e r x) }, g.2)

-- ---- by number: the lowest, where rank and number agree

-- they do on a list: of the reasons for which a test isn't met, the lower by rank is the lower by number
abbrev pub Agree : List Test → Type 0
Agree ts = (r s : Reason) → Fails r ts → Fails s ts → rank_of r ≤ rank_of s → number_of r ≤ number_of s

pub lowest_where : (k : ℕ) (ts : List Test) → in_order k ts ≡ true → Agree ts → IsLowest (lowest ts) ts
lowest_where k ts o agree =
    record { applies = λ m a. let q = given a in (q.0, q.1.fails, q.2); least = λ m a. least a; done = (all_met ts, met_all ts) } where
      given : {m : ℕ} → Applies m ts → FirstGiven ts
      given a = first-given k ts o a.0 a.1

      least : {m : ℕ} → Applies m ts → lowest ts ≤ m
      least a = let q = given a in omega (arith, agree q.0 a.0 q.1.fails a.1 (q.1.first a.0 a.1), q.2, a.2)

-- every reason has its number for a rank, so they agree on every list
rank_number : (r : Reason) → rank_of r ≡ number_of r
rank_number size = refl
rank_number stride = refl
rank_number number = refl
rank_number table = refl
rank_number read = refl
rank_number written = refl
rank_number above64 = refl
rank_number matrix = refl

agree_all : (ts : List Test) → Agree ts
agree_all ts r s f g l = omega (arith, rank_number r, rank_number s, l)

-- of a contract that says `r ≡ lowest ts`: r is the lowest number that applies
abbrev pub GivesLowest : List Test → Type 0
GivesLowest ts = (r : ℕ) → r ≡ lowest ts → IsLowest r ts

pub gives_lowest : (ts : List Test) → in_order 1 ts ≡ true → GivesLowest ts
gives_lowest ts o r e = subst (λ (n : ℕ). IsLowest n ts) (sym e) (lowest_where 1 ts o (agree_all ts))

-- ---- no other number is the lowest
met_or : (ts : List Test) → Met ts ⊎ ((n : ℕ) × Applies n ts)
met_or [] = inl tt
met_or (t ∷ ts) = go t.meets refl (met_or ts) where
  go : (b : Bool) → t.meets ≡ b → Met ts ⊎ ((n : ℕ) × Applies n ts) → Met (t ∷ ts) ⊎ ((n : ℕ) × Applies n (t ∷ ts))
  go false e q = inr (number_of t.reason, (t.reason, inl (refl, e), refl))
  go true e q = ⊎_elim (λ m. inl (e, m)) (λ x. inr (x.0, (x.1.0, inr x.1.1, x.1.2))) q

pub only_lowest : (ts : List Test) (n n' : ℕ) → IsLowest n ts → IsLowest n' ts → n ≡ n'
only_lowest ts n n' a b =
    ⊎_elim (λ m. a.done.1 m ∙ sym (b.done.1 m))
    (λ x. omega (arith, a.least n' (b.applies x.0 x.1), b.least n (a.applies x.0 x.1)))
    (met_or ts)

-- ---- two tests that aren't met: in order the lower number is given; exchanged, the higher one, of which the promise is false
in_turn : List Test
in_turn = size asks true ∷ stride asks false ∷ read asks false ∷ []

exchanged : List Test
exchanged = size asks true ∷ read asks false ∷ stride asks false ∷ []

two_given : (lowest in_turn ≡ 2) × GivesLowest in_turn × Applies 2 in_turn × Applies 5 in_turn
unfolding in_turn in_order need
two_given = (refl, gives_lowest in_turn refl, (stride, inr (inl (refl, refl)), refl), (read, inr (inr (inl (refl, refl))), refl))

not-lowest : (in_order 1 exchanged ≡ false) × (lowest exchanged ≡ 5) × (GivesLowest exchanged → ⊥)
unfolding exchanged in_order need
not-lowest = (refl, refl, λ l. absurd (omega (arith, (l 5 refl).least 2 (stride, inr (inr (inl (refl, refl))), refl))))

-- ---- each entry, by its tests' order
put_lowest : (dl dstStride sl srcStride w h : ℕ) → GivesLowest (put_tests dl dstStride sl srcStride w h)
put_lowest dl dstStride sl srcStride w h = gives_lowest _ (put_order dl dstStride sl srcStride w h)

prep-lowest : (deep : Bool) (tl tmpStride sl srcStride w h : ℕ) → GivesLowest (prep_tests deep tl tmpStride sl srcStride w h)
prep-lowest deep tl tmpStride sl srcStride w h = gives_lowest _ (prep_order deep tl tmpStride sl srcStride w h)

combine_lowest : (dl dstStride l1 l2 w h : ℕ) (other mask : Bool) → GivesLowest (combine_tests dl dstStride l1 l2 w h other mask)
combine_lowest dl dstStride l1 l2 w h other mask = gives_lowest _ (combine_order dl dstStride l1 l2 w h other mask)

blend-lowest : (dl dstStride tl w h : ℕ) (mask : List ℕ) → GivesLowest (blend_tests dl dstStride tl w h mask)
blend-lowest dl dstStride tl w h mask = gives_lowest _ (blend_order dl dstStride tl w h mask)

morph-lowest : (deep : Bool) (dl dstStride : ℕ) (alpha beta : ℤ) (w h : ℕ) → GivesLowest (morph_tests deep dl dstStride alpha beta w h)
morph-lowest deep dl dstStride alpha beta w h = gives_lowest _ (morph_order deep dl dstStride alpha beta w h)

edge-lowest : (bw bh iw ih : ℕ) (x y : ℤ) (dl dstStride pl planeStride : ℕ) → GivesLowest (edge_tests bw bh iw ih x y dl dstStride pl planeStride)
edge-lowest bw bh iw ih x y dl dstStride pl planeStride = gives_lowest _ (edge_order bw bh iw ih x y dl dstStride pl planeStride)

subpel-lowest : (deep : Bool) (dl dstStride sl srcOff srcStride w h : ℕ) (mx my filterType : ℤ) (tl el : ℕ)
    → GivesLowest (subpel_tests deep dl dstStride sl srcOff srcStride w h mx my filterType tl el)
subpel-lowest deep dl dstStride sl srcOff srcStride w h mx my filterType tl el =
    gives_lowest _ (subpel_order deep dl dstStride sl srcOff srcStride w h mx my filterType tl el)

bilin-lowest : (deep : Bool) (dl dstStride sl srcStride w h : ℕ) (mx my : ℤ) → GivesLowest (bilin_tests deep dl dstStride sl srcStride w h mx my)
bilin-lowest deep dl dstStride sl srcStride w h mx my = gives_lowest _ (bilin_order deep dl dstStride sl srcStride w h mx my)

scaled_lowest : (eight deep typed tabled : Bool) (dl dstStride sl srcOff srcStride w h : ℕ) (mx my dx dy : ℤ)
    → GivesLowest (scaled_tests eight deep typed tabled dl dstStride sl srcOff srcStride w h mx my dx dy)
scaled_lowest eight deep typed tabled dl dstStride sl srcOff srcStride w h mx my dx dy =
    gives_lowest _ (scaled_order eight deep typed tabled dl dstStride sl srcOff srcStride w h mx my dx dy)

w-mask-lowest : (deep : Bool) (dl dstStride l1 l2 w h ml maskStride : ℕ) (sign : ℤ) (ssHor ssVer : Bool)
    → GivesLowest (w_mask_tests deep dl dstStride l1 l2 w h ml maskStride sign ssHor ssVer)
w-mask-lowest deep dl dstStride l1 l2 w h ml maskStride sign ssHor ssVer =
    gives_lowest _ (w-mask_order deep dl dstStride l1 l2 w h ml maskStride sign ssHor ssVer)

sads_lowest : (m : ℕ) (deep : Bool) (l0 p0Stride l1 p1Stride w h : ℕ) → GivesLowest (sads_tests m deep l0 p0Stride l1 p1Stride w h)
sads_lowest m deep l0 p0Stride l1 p1Stride w h = gives_lowest _ (sads_order m deep l0 p0Stride l1 p1Stride w h)

warp-lowest : (deep : Bool) (dl dstStride sl srcStride srcOff : ℕ) (a b c d mx my : ℤ) (tl : ℕ)
    → GivesLowest (warp_tests deep dl dstStride sl srcStride srcOff a b c d mx my tl)
warp-lowest deep dl dstStride sl srcStride srcOff a b c d mx my tl = gives_lowest _ (warp_order deep dl dstStride sl srcStride srcOff a b c d mx my tl)

divisor_lowest : (d rl : ℕ) → GivesLowest (divisor_tests d rl)
divisor_lowest d rl = gives_lowest _ (divisor_order d rl)

shear_lowest : (m : List ℤ) (rl : ℕ) → GivesLowest (shear_tests m rl)
shear_lowest m rl = gives_lowest _ (shear_order m rl)

affine_mv_lowest : (bw4 bh4 mvx mvy : ℤ) (m : List ℤ) (bx4 by4 : ℤ) → GivesLowest (affine_mv_tests bw4 bh4 mvx mvy m bx4 by4)
affine_mv_lowest bw4 bh4 mvx mvy m bx4 by4 = gives_lowest _ (affine_mv_order bw4 bh4 mvx mvy m bx4 by4)

window_lowest : (p : LentPlane) (q : Asked) (sl : ℕ) → GivesLowest (window_tests p q sl)
window_lowest p q sl = gives_lowest _ (window_order p q sl)

row-lowest : (p : LentPlane) (row : ℤ) → GivesLowest (row_tests p row)
row-lowest p row = gives_lowest _ (row_order p row)

order_lowest : (s : Setting) (named : Bool) (o : Order) (sl dl dstStride : ℕ) → GivesLowest (order_tests s named o sl dl dstStride)
order_lowest s named o sl dl dstStride = gives_lowest _ (order_order s named o sl dl dstStride)

-- ---- three entries answer with a record that has the number, as their contracts say: it is that of their tests
module _ {A : Type 0} where
  number_same : (number_in : A → ℕ) (n : ℕ) (new old : A) → (n ≡ 0 → number_in new ≡ n) → number_in old ≡ n → number_in (or_same n new old) ≡ n
  unfolding or_same
  number_same number_in zero new old e f = e refl
  number_same number_in (suc n) new old e f = f

window_given : (p : LentPlane) (q : Asked) (sl : ℕ) → IsLowest (window_of p q sl).number (window_tests p q sl)
window_given p q sl = window_lowest p q sl (window_of p q sl).number (window_number p q sl)

row-given : (p : LentPlane) (row : ℤ) → IsLowest (row_at p row).number (row_tests p row)
unfolding row_at
row-given p row = row-lowest p row (row_at p row).number (number_same (λ (v : Part). v.number) (lowest (row_tests p row)) _ _ sym refl)

divisor_given : (d : ℕ) (recip : List ℕ) → IsLowest (divisor_of d recip).number (divisor_tests d (length recip))
unfolding divisor_of
divisor_given d recip =
    let n = lowest (divisor_tests d (length recip)) in
    divisor_lowest d (length recip) (divisor_of d recip).number (number_same (λ (v : Divisor). v.number) n _ _ (λ e. refl) refl)
