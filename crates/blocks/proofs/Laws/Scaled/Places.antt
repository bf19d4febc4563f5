-- Scaled blocks, refusal number 5: a source of sl places is accepted exactly where it holds each place that the Rust fetches. Place o is that of the pixel that
-- the block starts in, and pixels and rows are counted from there. Assumes nothing.
use Rattle.blocks.proofs.Usual.{true, Bool, false, inr, ◌≡◌, ◌∙◌, refl, sym, ℕ, ◌≤◌, ◌*◌, ◌+◌, ◌-◌, ◌<◌, mul-le-mul_right, add-mul, arith, ℤ, up, by-lt}
use mathlib.Core.Logic.{◌⊎◌, inl, ⊎_elim}
use Rattle.rows.specs.Scaled.{position, pixel_of, sixteenth}
use Rattle.blocks.specs.Scaled.{column_read, reads_scaled}
use Rattle.rows.specs.Warp.{every}
use Rattle.blocks.proofs.Laws.Scaled.Pairs.{position-le}
use Rattle.blocks.proofs.Laws.Warp.Corners.{every-at, all_every}
use Rattle.blocks.proofs.Laws.Scaled.Ready.{every-none, taps_read, read_taps, row_taps, pair_read, read_pair}

-- the row that the last row of h is in
abbrev pub last_row : (my dy : ℤ) (h : ℕ) → ℕ
last_row my dy h = pixel_of (position (up my) (up dy) (h - 1))

-- the position of column x
abbrev pub column_at : (mx dx : ℤ) (x : ℕ) → ℕ
column_at mx dx x = position (up mx) (up dx) x

-- ---- 8-tap: row b and tap a are counted from three rows above and three pixels to the left, so their place is o + b * s + (pixel_of p + a) less 3 * s + 3

-- of the column at position p, this place is one of the source's
pub record Inside (sl o s p b a : ℕ) : Type 0 where
  pub low : 3 * s + 3 ≤ o + b * s + (pixel_of p + a)
  pub high : o + b * s + (pixel_of p + a) < sl + (3 * s + 3)

-- the pixel itself is fetched, and all eight where the fraction isn't 0
abbrev pub TapFetched : (fraction a : ℕ) → Type 0
TapFetched fraction a = (a ≡ 3) ⊎ ((1 ≤ fraction) × (a ≤ 7))

-- so is each place that is fetched, of every column and row
abbrev pub AllInside : (sl o s w h : ℕ) (mx my dx dy : ℤ) → Type 0
AllInside sl o s w h mx my dx dy =
    (x b a : ℕ) → x < w → b ≤ last_row my dy h + 7 → TapFetched (sixteenth (column_at mx dx x)) a → Inside sl o s (column_at mx dx x) b a

pub accepted_inside : (sl o s w h : ℕ) (mx my dx dy : ℤ) → reads_scaled true sl o s w h mx my dx dy ≡ true → AllInside sl o s w h mx my dx dy
unfolding reads_scaled
accepted_inside sl o s w h mx my dx dy e x b a l r f =
    let t = taps_read sl o s (last_row my dy h) (column_at mx dx x) (every-at w _ e x l) in
    let q = row_taps (last_row my dy h) s b r in
    ⊎_elim (λ g. record { low = omega arith; high = omega arith }) (λ g. record { low = omega arith; high = omega arith }) f

pub inside_accepted : (sl o s w h : ℕ) (mx my dx dy : ℤ) → AllInside sl o s w h mx my dx dy → reads_scaled true sl o s w h mx my dx dy ≡ true
unfolding reads_scaled
inside_accepted sl o s w h mx my dx dy i =
    let n = last_row my dy h in
    all_every w _
    (λ x l.
    let p = column_at mx dx x in
    let m = add-mul (n + 4) 3 s in
    read_taps sl o s n p
    (by-lt 0 (sixteenth p)
    (λ g.
    let first = i x 0 0 l (omega arith) (inr (g, omega arith)) in
    let last = i x (n + 4 + 3) 7 l (omega arith) (inr (g, omega arith)) in
    record { before = omega arith; last = omega arith })
    λ g.
    let first = i x 0 3 l (omega arith) (inl refl) in
    let last = i x (n + 4 + 3) 3 l (omega arith) (inl refl) in
    record { before = omega arith; last = omega arith }))

-- ---- bilinear: the pixel and the one to its right, down to the row below the last
abbrev pub AllPairsInside : (sl o s w h : ℕ) (mx my dx dy : ℤ) → Type 0
AllPairsInside sl o s w h mx my dx dy =
    (x b a : ℕ) → x < w → b ≤ last_row my dy h + 1 → a ≤ 1 → o + b * s + (pixel_of (column_at mx dx x) + a) < sl

pub accepted_pairs : (sl o s w h : ℕ) (mx my dx dy : ℤ) → reads_scaled false sl o s w h mx my dx dy ≡ true → AllPairsInside sl o s w h mx my dx dy
unfolding reads_scaled
accepted_pairs sl o s w h mx my dx dy e x b a l r f =
    omega (arith, pair_read sl o s (last_row my dy h) (column_at mx dx x) (every-at w _ e x l), mul-le-mul_right s r)

pub pairs_accepted : (sl o s w h : ℕ) (mx my dx dy : ℤ) → AllPairsInside sl o s w h mx my dx dy → reads_scaled false sl o s w h mx my dx dy ≡ true
unfolding reads_scaled
pairs_accepted sl o s w h mx my dx dy i =
    let n = last_row my dy h in
    all_every w _ (λ x l. read_pair sl o s n (column_at mx dx x) (omega (arith, i x (n + 1) 1 l (omega arith) (omega arith))))

-- columns never fall: they are all inside exactly where the last is
pub last-column : (sl o s n w start step : ℕ) → 1 ≤ w
    → column_read false sl o s (1 + n) (position start step (w - 1)) ≡ every w (λ x. column_read false sl o s (1 + n) (position start step x))
last-column sl o s n w start step h = by_test (column_read false sl o s (1 + n) (position start step (w - 1))) refl where
  by_test : (t : Bool) → column_read false sl o s (1 + n) (position start step (w - 1)) ≡ t
      → column_read false sl o s (1 + n) (position start step (w - 1)) ≡ every w (λ x. column_read false sl o s (1 + n) (position start step x))
  by_test true e =
      let last = pair_read sl o s n (position start step (w - 1)) e in
      e
      ∙ sym (all_every w _ λ x l. read_pair sl o s n (position start step x) (omega (arith, last, position-le start step {x = x} {y = w - 1} (omega arith))))
  by_test false e = e ∙ sym (every-none w _ (w - 1) (omega arith) e)
