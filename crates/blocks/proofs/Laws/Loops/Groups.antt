-- A block by two passes, eight rows at a time: where the loop over groups of rows stands in the destination, and what the array of intermediates holds. c is
-- the number of rows that are carried over. Assumes nothing.
use Rattle.blocks.proofs.Usual.{List, ◌≡◌, ◌∙◌, sym, ap, ℕ, ◌≤◌, ◌*◌, ◌+◌, ◌-◌, ◌<◌, arith, pos, ℤ, length, get_or, at, span, splice, fill, Rows}
use Rattle.blocks.proofs.Usual.{Filled, by-lt, row_fits, fill_in_lem, add-mul, mul-le-mul_right, lt-ltb, le-ltb, length-fill, inr, min}
use mathlib.Core.Logic.{◌⊎◌, inl}
use Rattle.rows.specs.Places.{pick, in_block}
use Rattle.rows.proofs.Laws.Blocks.Places.{row-le, span-length, span-at, splice-length, splice-before, splice_in, splice-after, get_d_row_of, length-row_of, row_done}
use Rattle.rows.proofs.Laws.Blocks.Fill.{fill_out, fill_in-is, in_block_in, in_block_col, in_block-row}
use Rattle.rows.proofs.Laws.Blocks.Over.{Over}
use Rattle.blocks.specs.inner.Groups.{carried}

-- ---- the destination

-- k rows from row y on were lent as `&mut d[y * s..e]`, and came back with the block f of k rows: that is the picture's next k rows
module _ {A : Type 0} (z : A) {s w : ℕ} {F : ℕ → ℕ → A} {d₀ : List A} {h y : ℕ} {d : List A} (p : Filled s w F d₀ h y d) (rows : Rows (length d₀) s w h)
    (w1 : 1 ≤ w) (k : ℕ) (k1 : 1 ≤ k) (more : y + k ≤ h) (f : ℕ → ℕ → A) (same : (i j : ℕ) → i < w → j < k → f i j ≡ F i (y + j))
    (e : ℕ) (end : e ≡ y * s + (k - 1) * s + w) (r : List A) (is : r ≡ fill (span d (y * s) e) s w k f) where
  last : e ≤ length d
  last = omega (arith, end, p, row_fits (length d₀) s w h (y + (k - 1)) rows.fits (omega arith), add-mul y (k - 1) s)

  long : length (span d (y * s) e) ≡ e - y * s
  long = span-length z d (y * s) e last

  lent : y * s + length r ≡ e
  lent = omega (arith, end, ap length is ∙ length-fill (span d (y * s) e) s w k f ∙ long)

  abbrev d' : List A
  d' = splice d (y * s) e r

  -- right of the block or below the rows that were filled, it is what it was
  old : (i j : ℕ) → i < s → (w ≤ i) ⊎ (y ≤ j) → j * s + i < length d₀ → get_or d (j * s + i) z ≡ get_or d₀ (j * s + i) z
  old i j a o b = ap (λ (l : List A). get_or l (j * s + i) z) p.is ∙ fill_out z s d₀ w y F i j a o b

  abbrev Right : (i j : ℕ) → Type 0
  Right i j = get_or d' (j * s + i) z ≡ pick (in_block w (y + k) i j) (F i j) (get_or d₀ (j * s + i) z)

  out : (i j : ℕ) → (w ≤ i) ⊎ (y + k ≤ j) → get_or d' (j * s + i) z ≡ get_or d₀ (j * s + i) z → Right i j
  out i j (inl a) e = rw (in_block_col w (y + k) i j a) e
  out i j (inr b) e = rw (in_block-row w (y + k) i j b) e

  -- above the part that was lent
  above : (i j : ℕ) → i < s → j * s + i < length d₀ → j < y → Right i j
  above i j a b c =
      let n = splice-before z d (y * s) e r lent last (j * s + i) (omega (arith, row-le s c)) in
      by-lt i w
      (λ u. rw (in_block_in w (y + k) i j u (omega arith)) (n ∙ ap (λ (l : List A). get_or l (j * s + i) z) p.is
      ∙ fill_in_lem z s d₀ w y F i j rows.wide u c b))
      λ u. out i j (inl u) (n ∙ old i j a (inl u) b)

  -- column i of row t of the part
  part : (i t : ℕ) → i < s → t * s + i < e - y * s → (y + t) * s + i < length d₀ → Right i (y + t)
  part i t a b c =
      let n : (y + t) * s + i ≡ y * s + (t * s + i) = omega (arith, add-mul y t s) in
      let g = ap (λ (m : ℕ). get_or d' m z) n ∙ splice_in z d (y * s) e r lent last (t * s + i) (omega (arith, end))
      ∙ ap (λ (l : List A). get_or l (t * s + i) z) is in
      let stays : (w ≤ i) ⊎ (k ≤ t) → get_or d' ((y + t) * s + i) z ≡ get_or d₀ ((y + t) * s + i) z =
      λ o. g ∙ fill_out z s (span d (y * s) e) w k f i t a o (omega (arith, long))
      ∙ span-at z d (y * s) e last (t * s + i) (omega (arith, end)) ∙ ap (λ (m : ℕ). get_or d m z) (sym n) ∙ old i (y + t) a (inr (omega arith)) c in
      by-lt i w
      (λ u. by-lt t k
      (λ v. rw (in_block_in w (y + k) i (y + t) u (omega arith))
      (g ∙ fill_in_lem z s (span d (y * s) e) w k f i t rows.wide u v (omega (arith, long)) ∙ same i t u v))
      λ v. out i (y + t) (inr (omega arith)) (stays (inr v)))
      λ u. out i (y + t) (inl u) (stays (inl u))

  -- behind it
  behind : (i j : ℕ) → i < s → j * s + i < length d₀ → y ≤ j → e ≤ j * s + i → Right i j
  behind i j a b c q =
      let n = splice-after z d (y * s) e r lent last (j * s + i) q ∙ old i j a (inr c) b in
      by-lt j (y + k)
      (λ v. let m = mul-le-mul_right {m = j} {n = y + (k - 1)} s (omega arith) in out i j (inl (omega (arith, end, m, add-mul y (k - 1) s))) n)
      λ v. out i j (inr v) n

  right : (i j : ℕ) → i < s → j * s + i < length d₀ → Right i j
  right i j a b =
      by-lt j y (λ c. above i j a b c)
      λ c. by-lt (j * s + i) e
      (λ q. let n : y + (j - y) ≡ j = omega arith in
      rw n at (part i (j - y) a (omega (arith, add-mul y (j - y) s, ap (λ (m : ℕ). m * s) n)) (rw n b)))
      λ q. behind i j a b c q

  pub filled_group : Filled s w F d₀ h (y + k) d'
  unfolding fill
  filled_group =
      let l : length d' ≡ length d₀ = splice-length z d (y * s) e r lent last ∙ p.len in
      record { le = more; is = fill_in-is z s (omega (arith, rows)) d₀ (in_block w (y + k)) F d' l right; len = l }

-- ---- the intermediates

-- the first n rows of m, 64 apart, are the picture G's from row y on
pub record HoldsRows (w : ℕ) (G : ℕ → ℕ → ℤ) (m : List ℤ) (y n : ℕ) : Type 0 where
  pub row : (i u : ℕ) → i < w → u < n → at m (u * 64 + i) ≡ G i (y + u)

-- the array stays as long as it was, where a part of it was filled
pub part_long : (m : List ℤ) (a w k l : ℕ) {r : List ℤ} (g : ℕ → ℕ → ℤ) → length m ≡ l → a ≤ l → r ≡ fill (span m a l) 64 w k g
    → length (splice m a l r) ≡ l
part_long m a w k l {r} g len le is =
    let n = ap length is ∙ length-fill (span m a l) 64 w k g ∙ span-length (pos 0) m a l (omega arith) in
    splice-length (pos 0) m a l r (omega arith) (omega arith) ∙ len

module _ {w : ℕ} {G : ℕ → ℕ → ℤ} (wide : w ≤ 64) where
  -- filled from the start
  pub holds-first : (m₀ : List ℤ) {m : List ℤ} (n : ℕ) → n * 64 ≤ length m₀ → m ≡ fill m₀ 64 w n G → HoldsRows w G m 0 n
  holds-first m₀ {m} n room e =
      record {
        row = λ i u a b. ap (λ (l : List ℤ). at l (u * 64 + i)) e ∙ fill_in_lem (pos 0) 64 m₀ w n G i u wide a b (omega arith) ∙ ap (G i) (omega arith);
      }

  -- k rows more, made in the part behind them
  pub holds_more : {m : List ℤ} {y : ℕ} (c k l : ℕ) {r : List ℤ} (g : ℕ → ℕ → ℤ) → length m ≡ l → (c + k) * 64 ≤ l → HoldsRows w G m y c
      → r ≡ fill (span m (c * 64) l) 64 w k g → ((i j : ℕ) → g i j ≡ G i (y + (c + j))) → HoldsRows w G (splice m (c * 64) l r) y (c + k)
  holds_more {m} {y} c k l {r} g len room p is same =
      record { row = λ i u a b. by-lt u c (λ v. before i u a v) λ v. behind i u a v b } where
        long : length (span m (c * 64) l) ≡ l - c * 64
        long = span-length (pos 0) m (c * 64) l (omega arith)

        lent : c * 64 + length r ≡ l
        lent = omega (arith, ap length is ∙ length-fill (span m (c * 64) l) 64 w k g ∙ long)

        before : (i u : ℕ) → i < w → u < c → at (splice m (c * 64) l r) (u * 64 + i) ≡ G i (y + u)
        before i u a v = splice-before (pos 0) m (c * 64) l r lent (omega arith) (u * 64 + i) (omega arith) ∙ p.row i u a v

        behind : (i u : ℕ) → i < w → c ≤ u → u < c + k → at (splice m (c * 64) l r) (u * 64 + i) ≡ G i (y + u)
        behind i u a v b =
            ap (at (splice m (c * 64) l r)) (omega arith)
            ∙ splice_in (pos 0) m (c * 64) l r lent (omega arith) ((u - c) * 64 + i) (omega arith)
            ∙ ap (λ (x : List ℤ). at x ((u - c) * 64 + i)) is
            ∙ fill_in_lem (pos 0) 64 (span m (c * 64) l) w k g i (u - c) wide a (omega arith) (omega (arith, long))
            ∙ same i (u - c)
            ∙ ap (G i) (omega arith)

  -- the c rows behind eight, carried over
  pub holds-carried : {m : List ℤ} {y : ℕ} (c : ℕ) → (8 + c) * 64 ≤ length m → HoldsRows w G m y (c + 8) → HoldsRows w G (carried (c * 64) m) (y + 8) c
  unfolding carried
  holds-carried {m} {y} c room p =
      record {
        row =
            λ i u a b.
            get_d_row_of (pos 0) (length m) _ (u * 64 + i) (omega arith)
            ∙ rw (lt-ltb (u * 64 + i) (c * 64) (omega arith)) (ap (at m) (omega arith))
            ∙ p.row i (u + 8) a (omega arith)
            ∙ ap (G i) (omega arith);
      }

-- the loop that carries n numbers over: those before i stand at the front
pub record Carrying (n : ℕ) (m₀ : List ℤ) (i : ℕ) (m : List ℤ) : Type 0 where
  pub most : i ≤ n
  pub over : Over (pos 0) (λ p. at m₀ (p + 512)) m₀ i m

pub carried_all : {n i : ℕ} {m₀ m : List ℤ} → Carrying n m₀ i m → n ≤ i → m ≡ carried n m₀
unfolding carried
carried_all {n} {i} {m₀} {m} p h =
    row_done (pos 0) (length m₀) _ m p.over.done.len λ k b.
    by-lt k n
    (λ c. rw (lt-ltb k n c) (p.over.done.same k (omega arith)))
    λ c. rw (le-ltb k n c) (p.over.rest k (omega (arith, p)))

-- ---- the loop over groups

-- in a turn at row y, k rows are made: from the source's row y + c on, where x places of a row are read, into the destination's row y on
pub record Group (dl ds sl o s c x w h y k : ℕ) : Type 0 where
  pub some : 1 ≤ k
  pub most : k ≤ 8
  pub left : y + k ≤ h
  pub whole : y + k < h → k ≡ 8
  pub src : o + (y + c) * s + (k - 1) * s + x ≤ sl
  pub dst : y * ds + (k - 1) * ds + w ≤ dl

pub group : {dl ds sl o s c x w h : ℕ} (y k : ℕ) → Rows dl ds w h → o + (h + c - 1) * s + x ≤ sl → y < h → k ≡ min 8 (h - y)
    → Group dl ds sl o s c x w h y k
group {dl} {ds} {sl} {o} {s} {c} {x} {w} {h} y k rows reads lt e =
    let a : (1 ≤ k) × (k ≤ 8) × (y + k ≤ h) = omega arith in
    record {
      some = a.0;
      most = a.1;
      left = a.2;
      whole = λ b. omega arith;
      src = omega (arith, add-mul (y + c) (k - 1) s, mul-le-mul_right {m = y + c + (k - 1)} {n = h + c - 1} s (omega arith));
      dst = omega (arith, add-mul y (k - 1) ds, row_fits dl ds w h (y + (k - 1)) rows.fits (omega arith));
    }

-- the same of the destination alone
pub record GroupTo (dl ds w h y k : ℕ) : Type 0 where
  pub some : 1 ≤ k
  pub most : k ≤ 8
  pub left : y + k ≤ h
  pub whole : y + k < h → k ≡ 8
  pub dst : y * ds + (k - 1) * ds + w ≤ dl

pub group_to : {dl ds w h : ℕ} (y k : ℕ) → Rows dl ds w h → y < h → k ≡ min 8 (h - y) → GroupTo dl ds w h y k
group_to {dl} {ds} {w} {h} y k rows lt e =
    let a : (1 ≤ k) × (k ≤ 8) × (y + k ≤ h) = omega arith in
    record {
      some = a.0;
      most = a.1;
      left = a.2;
      whole = λ b. omega arith;
      dst = omega (arith, add-mul y (k - 1) ds, row_fits dl ds w h (y + (k - 1)) rows.fits (omega arith));
    }

-- the first y rows of the destination are the picture F's, and the array has the c rows of G that the next ones begin with
module _ {A : Type 0} where
  pub record Grouped (c ml s w : ℕ) (F : ℕ → ℕ → A) (G : ℕ → ℕ → ℤ) (d₀ : List A) (h : ℕ) (d : List A) (m : List ℤ) (y : ℕ) : Type 0 where
    pub dst : Filled s w F d₀ h y d
    pub long : length m ≡ ml
    pub rows : y < h → HoldsRows w G m y c

  -- after a turn that isn't the last one, with the rows carried over, and after the last
  pub grouped_next : {c ml s w : ℕ} {F : ℕ → ℕ → A} {G : ℕ → ℕ → ℤ} {d₀ : List A} {h : ℕ} {d : List A} {m m' : List ℤ} {y : ℕ} (k : ℕ) → k ≡ 8
      → w ≤ 64 → (8 + c) * 64 ≤ ml → Filled s w F d₀ h (y + k) d → length m ≡ ml → HoldsRows w G m y (c + k) → m' ≡ carried (c * 64) m
      → Grouped c ml s w F G d₀ h d m' (y + k)
  unfolding carried
  grouped_next {c} {ml} {s} {w} {F} {G} {d₀} {h} {d} {m} {m'} {y} k e wide room p long rows is =
      record {
        dst = p;
        long = ap length is ∙ length-row_of (length m) _ ∙ long;
        rows = λ lt. rw (is, e) (holds-carried wide c (omega arith) (rw e at rows));
      }

  pub grouped_last : {c ml s w : ℕ} {F : ℕ → ℕ → A} {G : ℕ → ℕ → ℤ} {d₀ : List A} {h : ℕ} {d : List A} {m : List ℤ} {y : ℕ} → h ≤ y
      → Filled s w F d₀ h y d → length m ≡ ml → Grouped c ml s w F G d₀ h d m y
  grouped_last end p long = record { dst = p; long = long; rows = λ lt. absurd (omega arith) }
