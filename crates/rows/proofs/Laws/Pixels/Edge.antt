-- A row of the endless plane is written in three parts: up to place a the plane's first pixel, up to place e its pixels, then its last.
-- Assumes nothing.
use Rattle.rows.proofs.Usual.{List, ◌≡◌, ◌∙◌, ap, sym, ◌-◌, ◌+◌, ◌≤◌, ◌<◌, ℕ, min, arith, pos, ℤ, ◌+ℤ◌, ◌-ℤ◌, get_or, clip, up, dn, one-part, sub_parts, add_parts}
use Rattle.rows.proofs.Laws.Numbers.Signed.{clip-up}

-- ---- columns: left of the plane, in it, right of it
left_col : (iw : ℕ) (x : ℤ) (i : ℕ) → i < dn x → clip (iw - 1) (x +ℤ pos i) ≡ 0
left_col iw x i h = omega (arith, clip-up (iw - 1) (x +ℤ pos i), add_parts x (pos i), one-part (x +ℤ pos i), one-part x)

in_col : (iw : ℕ) (x : ℤ) (i : ℕ) → i + up x < iw → clip (iw - 1) (x +ℤ pos (dn x + i)) ≡ up x + i
in_col iw x i h = omega (arith, clip-up (iw - 1) (x +ℤ pos (dn x + i)), add_parts x (pos (dn x + i)), one-part (x +ℤ pos (dn x + i)))

right_col : (iw : ℕ) (x : ℤ) (i : ℕ) → iw + dn x ≤ i + up x → clip (iw - 1) (x +ℤ pos i) ≡ iw - 1
right_col iw x i h = omega (arith, clip-up (iw - 1) (x +ℤ pos i), add_parts x (pos i))

-- ---- the parts of a row of n columns from column x of the plane on, whose row has iw pixels: the middle one from its pixel s on
pub record Parts (iw : ℕ) (x : ℤ) (n a e s : ℕ) : Type 0 where
  pub some : 1 ≤ iw
  pub ordered : a ≤ e
  pub within : e ≤ n
  pub held : s + e ≤ iw + a
  pub left : (i : ℕ) → i < a → clip (iw - 1) (x +ℤ pos i) ≡ 0
  pub inside : (i : ℕ) → a + i < e → clip (iw - 1) (x +ℤ pos (a + i)) ≡ s + i
  pub right : (i : ℕ) → e + i < n → clip (iw - 1) (x +ℤ pos (e + i)) ≡ iw - 1

pub parts : {iw : ℕ} {x : ℤ} {n a e s : ℕ} → 1 ≤ iw
    → a ≡ clip n (pos 0 -ℤ x) → e ≡ clip n (pos iw -ℤ x) → s ≡ clip iw (x -ℤ pos 0) → Parts iw x n a e s
parts {iw} {x} {n} {a} {e} {s} h f l t =
    record {
      some = h;
      ordered = omega (arith, first, last, one-part x);
      within = omega (arith, last);
      held = omega (arith, first, last, start, one-part x);
      left = λ i b. left_col iw x i (omega (arith, first));
      inside = λ i b. let q : a ≡ dn x = omega (arith, first, last) in rw (q, start_in i b) (in_col iw x i (within_in i b));
      right = λ i b. right_col iw x (e + i) (omega (arith, last));
    } where
      first : a ≡ min (dn x) n
      first = omega (arith, f, clip-up n (pos 0 -ℤ x), sub_parts (pos 0) x, one-part x)

      last : e ≡ min (iw + dn x - up x) n
      last = omega (arith, l, clip-up n (pos iw -ℤ x), sub_parts (pos iw) x, one-part (pos iw -ℤ x))

      start : s ≡ min (up x) iw
      start = omega (arith, t, clip-up iw (x -ℤ pos 0), sub_parts x (pos 0), one-part x)

      within_in : (i : ℕ) → a + i < e → i + up x < iw
      within_in i b = omega (arith, first, last)

      start_in : (i : ℕ) → a + i < e → s ≡ up x
      start_in i b = omega (arith, start, within_in i b)

-- the pixel at column x + i
abbrev pub edge_at : List ℕ → (o iw : ℕ) → ℤ → ℕ → ℕ
edge_at src o iw x i = get_or src (o + clip (iw - 1) (x +ℤ pos i)) 0

-- the pixel that stands at place k is the one at column x + i
pub is_at : (src : List ℕ) (o iw : ℕ) (x : ℤ) (k i : ℕ) {c : ℕ} → clip (iw - 1) (x +ℤ pos i) ≡ c → k ≡ o + c → get_or src k 0 ≡ edge_at src o iw x i
is_at src o iw x k i e q = ap (λ (n : ℕ). get_or src n 0) (q ∙ ap (λ (n : ℕ). o + n) (sym e))
