-- Scaled blocks: the last filtered rows as they come in and as they are read. Assumes nothing.
use Rattle.blocks.proofs.Usual.{List, ◌≡◌, ◌∙◌, refl, sym, ap, ℕ, ◌≤◌, ◌*◌, ◌+◌, ◌-◌, ◌<◌, suc, zero, ◌%◌, arith, ne_eqb, pos, ℤ, ◌+ℤ◌, ◌*ℤ◌}
use Rattle.blocks.proofs.Usual.{length, get_or, at, splice, row_of, by-lt, row_same, length-row_of, add_parts, eq_of}
use borrow.Author.Tests.{eq-eqb}
use Rattle.rows.specs.Numbers.{sum_z, ◌>>◌}
use Rattle.rows.specs.Subpel.{S, tapped}
use Rattle.rows.proofs.Laws.Blocks.Places.{get_d_row_of, splice-before, splice_in, splice-after, splice-length}
use Rattle.rows.proofs.Laws.Filters.Taps.{sum_same}
use Rattle.rows.specs.Scaled.{pixel_of, sixteenth}
use Rattle.blocks.specs.inner.Scaled.{LastEight, Turned, by_parity}

-- ---- rows that stand side by side in place of rows in their order: a sum of eight goes round

-- the first number last
sum_first : (n : ℕ) (g : ℕ → ℤ) → sum_z (suc n) g ≡ g 0 +ℤ sum_z n (λ t. g (suc t))
unfolding sum_z
sum_first zero g = eq_of _ _ (omega (arith, add_parts (pos 0) (g 0), add_parts (g 0) (pos 0)))
sum_first (suc n) g =
    let a = sum_z n (λ t. g (suc t)) in
    ap (λ (v : ℤ). v +ℤ g (suc n)) (sum_first n g)
    ∙ eq_of _ _ (omega (arith, add_parts (g 0 +ℤ a) (g (suc n)), add_parts (g 0) a, add_parts (g 0) (a +ℤ g (suc n)), add_parts a (g (suc n))))

first-last : (g : ℕ → ℤ) → sum_z 7 (λ t. g (suc t)) +ℤ g 0 ≡ sum_z 8 (λ t. g ((1 + t) % 8))
unfolding sum_z
first-last g = refl

sum_turn : (g : ℕ → ℤ) → sum_z 8 g ≡ sum_z 8 (λ t. g ((1 + t) % 8))
sum_turn g =
    let a = sum_z 7 (λ t. g (suc t)) in
    sum_first 7 g ∙ eq_of _ _ (omega (arith, add_parts (g 0) a, add_parts a (g 0))) ∙ first-last g

sum_round : (n : ℕ) (g : ℕ → ℤ) → sum_z 8 g ≡ sum_z 8 (λ t. g ((n + t) % 8))
sum_round zero g = sum_same 8 _ _ (λ t b. ap g (omega arith))
sum_round (suc n) g = sum_round n g ∙ sum_turn (λ t. g ((n + t) % 8)) ∙ sum_same 8 _ _ (λ t b. ap g (omega arith))

-- taps moved to the rows that they are for
pub taps_round : (f : List ℤ) (a r n : ℕ) (x : ℕ → ℤ) → a < 8
    → tapped (row_of 8 (λ k. at f ((k + 8 - a) % 8))) r n x ≡ tapped f r n (λ t. x ((a + t) % 8))
unfolding tapped S
taps_round f a r n x h =
    let g = row_of 8 (λ k. at f ((k + 8 - a) % 8)) in
    ap (λ (s : ℤ). s +ℤ pos r >> n)
    (sum_round a (λ k. at g k *ℤ x k)
    ∙ sum_same 8 _ _
    (λ t b. ap (λ (v : ℤ). v *ℤ x ((a + t) % 8)) (get_d_row_of (pos 0) 8 _ ((a + t) % 8) (omega arith) ∙ ap (λ (k : ℕ). at f k) (omega arith))))

-- ---- the last eight rows

order_at : {w n : ℕ} {line : ℕ → ℕ → ℤ} {rows : List ℤ} {order : List ℕ} → LastEight w line n rows order → (t : ℕ) → t < 8 → get_or order t 0 ≡ (n + t) % 8
order_at {w} {n} l t b = ap (λ (o : List ℕ). get_or o t 0) l.turns ∙ get_d_row_of 0 8 (λ t. (n + t) % 8) t b

pub eight_none : (w : ℕ) (line : ℕ → ℕ → ℤ) (rows : List ℤ) (order : List ℕ) → order ≡ row_of 8 (λ t. t) → length rows ≡ 512 → LastEight w line 0 rows order
eight_none w line rows order e s =
    record { size = s; turns = e ∙ row_same 0 8 (λ t. t) (λ t. (0 + t) % 8) (λ t b. omega arith); stands = λ k i a b c. absurd (omega arith) }

pub eight_turned : {w n : ℕ} {line : ℕ → ℕ → ℤ} {rows : List ℤ} {order : List ℕ} → LastEight w line n rows order → Turned order
eight_turned {w} {n} l =
    let f = order_at l 0 (omega arith) in
    (omega (arith, f), l.turns ∙ row_same 0 8 _ _ (λ t b. ap (λ (k : ℕ). k) (omega (arith, f))))

-- the order once the oldest has become the newest, and where that stands
pub eight_order : {w n : ℕ} {line : ℕ → ℕ → ℤ} {rows : List ℤ} {order : List ℕ} → LastEight w line n rows order
    → (order' : List ℕ) → order' ≡ row_of 8 (λ t. get_or order ((t + 1) % 8) 0) → (order' ≡ row_of 8 (λ t. (suc n + t) % 8)) × (get_or order' 7 0 ≡ n % 8)
eight_order {w} {n} l order' e =
    let q = e ∙ row_same 0 8 _ (λ t. (suc n + t) % 8) (λ t b. order_at l ((t + 1) % 8) (omega arith) ∙ omega arith) in
    (q, ap (λ (o : List ℕ). get_or o 7 0) q ∙ get_d_row_of 0 8 (λ t. (suc n + t) % 8) 7 (omega arith) ∙ omega arith)

-- row n comes in where the oldest stood
pub eight_more : {w n : ℕ} {line : ℕ → ℕ → ℤ} {rows : List ℤ} {order : List ℕ} → LastEight w line n rows order → w ≤ 64
    → (order' : List ℕ) → order' ≡ row_of 8 (λ t. get_or order ((t + 1) % 8) 0)
    → LastEight w line (n + 1) (splice rows (get_or order' 7 0 * 64) (get_or order' 7 0 * 64 + w) (row_of w (line n))) order'
eight_more {w} {n} {line} {rows} {order} l w64 order' e =
    let o = eight_order l order' e in
    let q = get_or order' 7 0 * 64 in
    let r = row_of w (line n) in
    let p : q + w ≤ length rows = omega (arith, o.1, l.size) in
    let fit : q + length r ≡ q + w = ap (λ (m : ℕ). q + m) (length-row_of w (line n)) in
    record {
      size = splice-length (pos 0) rows q (q + w) r fit p ∙ l.size;
      turns = o.0 ∙ row_same 0 8 _ _ (λ t b. ap (λ (k : ℕ). k % 8) (omega arith));
      stands = λ k i a b c.
          by-lt k n
          (λ d.
          by-lt (k % 8 * 64 + i) q
          (λ s. splice-before (pos 0) rows q (q + w) r fit p (k % 8 * 64 + i) s ∙ l.stands k i d (omega arith) c)
          λ s. splice-after (pos 0) rows q (q + w) r fit p (k % 8 * 64 + i) (omega (arith, o.1)) ∙ l.stands k i d (omega arith) c)
          λ d.
          let kn : k ≡ n = omega arith in
          ap (λ (m : ℕ). at (splice rows q (q + w) r) m) (omega (arith, o.1))
          ∙ splice_in (pos 0) rows q (q + w) r fit p i (omega arith)
          ∙ get_d_row_of (pos 0) w (line n) i c
          ∙ ap (λ (m : ℕ). line m i) (sym kn);
    }

-- the eight rows that stand after y + 8, from the oldest on
pub eight_at_lem : {w n : ℕ} {line : ℕ → ℕ → ℤ} {rows : List ℤ} {order : List ℕ} → LastEight w line n rows order → (y : ℕ) → n ≡ y + 8
    → (b i : ℕ) → b < 8 → i < w → at rows (get_or order b 0 * 64 + i) ≡ line (y + b) i
eight_at_lem {w} {n} {line} {rows} l y e b i lb li =
    ap (λ (k : ℕ). at rows (k * 64 + i)) (order_at l b lb ∙ omega arith) ∙ l.stands (y + b) i (omega arith) (omega arith) li

-- ---- the last two rows, by parity

pub parity_even : (p : ℕ) → pixel_of p % 2 ≡ 0 → sixteenth p ≡ by_parity p
unfolding by_parity
parity_even p e = rw (eq-eqb (pixel_of p % 2) 0 e) refl

pub parity_odd : (p : ℕ) → (pixel_of p % 2 ≡ 0 → ⊥) → 16 - sixteenth p ≡ by_parity p
unfolding by_parity
parity_odd p n = rw (ne_eqb (pixel_of p % 2) 0 n) refl
