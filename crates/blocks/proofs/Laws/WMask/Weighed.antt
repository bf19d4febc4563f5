-- w_mask's rows: what is read of a row of weights, and of a mask that keeps each. Assumes nothing.
use Rattle.blocks.proofs.Usual.{List, ◌++◌, ◌≡◌, ◌∙◌, ap, ap₂, ℕ, ◌≤◌, ◌*◌, ◌+◌, ◌-◌, ◌<◌, arith, ℤ, length, get_or, drop, pixel, fill, row_of, Rows}
use Rattle.blocks.proofs.Usual.{fill_same, fill_in_lem, length-fill, row_same, length-row_of, row_in}
use native.Mathlib.Nat.{zero-add}
use lib.ListN.{take, length-append, length-drop, get_or-append}
use lib.Seq.{length-take-le}
use Rattle.rows.specs.Combine.{masked, both}
use Rattle.rows.specs.WMask.{weight_of, pair_of, four_of}
use Rattle.rows.proofs.Laws.Blocks.Places.{get_d_row_of}

-- the weight at column i of row j, the pixel there by a weight v, and the pixel by its own
abbrev pub weigh : (depth B : ℕ) (tmp1 tmp2 : List ℤ) (w : ℕ) → ℕ → ℕ → ℕ
weigh depth B tmp1 tmp2 w i j = both (weight_of depth B) tmp1 tmp2 (j * w) i

abbrev pub mixed_by : (M B P : ℕ) (tmp1 tmp2 : List ℤ) (w : ℕ) → ℕ → ℕ → ℕ → ℕ
mixed_by M B P tmp1 tmp2 w i j v = both (masked M B P v) tmp1 tmp2 (j * w) i

abbrev pub mixed : (M B P depth : ℕ) (tmp1 tmp2 : List ℤ) (w : ℕ) → ℕ → ℕ → ℕ
mixed M B P depth tmp1 tmp2 w i j = mixed_by M B P tmp1 tmp2 w i j (weigh depth B tmp1 tmp2 w i j)

-- ---- an array of 64 whose first w places were lent, and came back as the row g
pub record Front (w : ℕ) (g : ℕ → ℕ) (m : List ℕ) : Type 0 where
  pub len : length m ≡ 64
  pub same : (i : ℕ) → i < w → get_or m i 0 ≡ g i

pub front_span : (w : ℕ) (m : List ℕ) → w ≤ 64 → length m ≡ 64 → length (take w m) ≡ w
front_span w m b l = length-take-le w m (omega arith)

pub front : (w : ℕ) (g : ℕ → ℕ) (m r : List ℕ) → w ≤ 64 → length m ≡ 64 → r ≡ row_of (length (take w m)) g → Front w g (r ++ drop w m)
front w g m r b l e =
    let q : r ≡ row_of w g = e ∙ ap (λ (k : ℕ). row_of k g) (front_span w m b l) in
    let n : length r ≡ w = ap length q ∙ length-row_of w g in
    record {
      len = simp (length-append, length-drop) (omega arith);
      same = λ i h. get_or-append r (drop w m) 0 i (omega arith) ∙ ap (λ (t : List ℕ). get_or t i 0) q ∙ get_d_row_of 0 w g i h;
    }

-- pixels made by weights that are read back from it
pub weighed : {w : ℕ} {g : ℕ → ℕ} {m : List ℕ} (rule : ℕ → ℕ → ℕ → ℕ) (y n : ℕ) (d : List ℕ) → Front w g m → n ≤ w
    → d ≡ row_of n (λ i. rule i y (get_or m (0 + i) 0)) → d ≡ row_of n (λ i. rule i y (g i))
weighed {m = m} rule y n d f b e =
    e ∙ row_same 0 n _ _ λ i h. ap (rule i y) (ap (λ (q : ℕ). get_or m q 0) (zero-add i) ∙ f.same i (omega arith))

-- what the mask keeps of it: pairs, and fours of two of them
pub pairs : {w : ℕ} {g : ℕ → ℕ} {m : List ℕ} (sign n : ℕ) (r : List ℕ) → Front w g m → 2 * n ≤ w
    → r ≡ row_of n (λ i. pair_of sign (get_or m (2 * i) 0) (get_or m (2 * i + 1) 0)) → r ≡ row_of n (λ i. pair_of sign (g (2 * i)) (g (2 * i + 1)))
pairs sign n r f b e =
    e ∙ row_same 0 n _ _ λ i h. ap₂ (pair_of sign) (f.same (2 * i) (omega arith)) (f.same (2 * i + 1) (omega arith))

pub fours : {w : ℕ} {g g' : ℕ → ℕ} {m m' : List ℕ} (sign n : ℕ) (r : List ℕ) → Front w g m → Front w g' m' → 2 * n ≤ w
    → r ≡ row_of n (λ i. four_of sign (get_or m (2 * i) 0 + get_or m (2 * i + 1) 0 + get_or m' (2 * i) 0 + get_or m' (2 * i + 1) 0))
    → r ≡ row_of n (λ i. four_of sign (g (2 * i) + g (2 * i + 1) + g' (2 * i) + g' (2 * i + 1)))
fours sign n r f f' b e =
    e ∙ row_same 0 n _ _ λ i h.
    ap (four_of sign)
    (omega (arith, f.same (2 * i) (omega arith), f.same (2 * i + 1) (omega arith), f'.same (2 * i) (omega arith), f'.same (2 * i + 1) (omega arith)))

-- ---- a mask m that keeps each of the weights g, and pixels made by weights that are read back from it
pub record Kept (g : ℕ → ℕ → ℕ) (m₀ : List ℕ) (ms w h : ℕ) (m : List ℕ) : Type 0 where
  pub is : m ≡ fill m₀ ms w h g
  pub rows : Rows (length m₀) ms w h

pub kept_room : {g : ℕ → ℕ → ℕ} {m₀ : List ℕ} {ms w h : ℕ} {m : List ℕ} → Kept g m₀ ms w h m → (h - 1) * ms + w ≤ length m
kept_room {g} {m₀} {ms} {w} {h} k = omega (arith, k.rows, ap length k.is ∙ length-fill m₀ ms w h g)

pub kept : {g : ℕ → ℕ → ℕ} {m₀ : List ℕ} {ms w h : ℕ} {m : List ℕ} (rule : ℕ → ℕ → ℕ → ℕ) (d : List ℕ) (s : ℕ) → Kept g m₀ ms w h m → 0 < s
    → fill d s w h (λ i j. rule i j (pixel m ms i j)) ≡ fill d s w h (λ i j. rule i j (g i j))
kept {g} {m₀} {ms} {w} {h} rule d s k p =
    fill_same 0 s p d w h _ _ λ i j iw jh.
    ap (rule i j)
    (ap (λ (l : List ℕ). pixel l ms i j) k.is ∙ fill_in_lem 0 ms m₀ w h g i j k.rows.wide iw jh (omega (arith, row_in j k.rows jh)))
