-- 8-tap: the rows of a block by one filter at most, and the turns of the loops over them. Assumes nothing.
use Rattle.blocks.proofs.Usual.{Bool, true, List, ◌≡◌, ◌∙◌, refl, sym, ap, ℕ, ◌≤◌, ◌*◌, ◌+◌, ◌<◌, ◌^◌, suc, zero, arith, leb, leb-true, pos, ℤ, nat_abs}
use Rattle.blocks.proofs.Usual.{length, get_or, at, clip, minus16, half, low16, row_of, row_same, Filled, Turn, turn}
use mathlib.Core.List.{map}
use native.Mathlib.Nat.{pow-le-pow_right}
use Rattle.rows.specs.Numbers.{sum}
use Rattle.rows.specs.Copy.{put, prep}
use Rattle.rows.specs.Subpel.{tapped}
use Rattle.rows.specs.inner.Subpel.{Near}
use Rattle.blocks.specs.inner.Ready.{Lines}
use Rattle.blocks.specs.inner.Subpel.{put_line, prep_line}
use Rattle.blocks.specs.declared.source.Stand.{Stand}
use Rattle.blocks.proofs.Laws.Loops.Stands.{StoodRow, stood_row}
use Rattle.blocks.proofs.Laws.Loops.Shown.{shown_turn}

-- ---- the rounding of a shift by n
pub half_le : (n k : ℕ) → n ≤ k → 2 * half n ≤ 2 ^ k
half_le n k h = let q : 2 ^ n ≤ 2 ^ k = pow-le-pow_right {n = 2} (omega arith) h in omega arith

pub half-short : {r n : ℕ} → r ≡ half n → n ≤ 7 → r ≤ 127
half-short {r} {n} e h = omega (arith, half_le n 7 h)

-- ---- in a turn at row y of a loop, the row is within both buffers, and the part lent is as long as the row
abbrev pub Line : {A : Type 0} (d : List A) (ds sl : ℕ) (s : Stand) (step w y : ℕ) → Type 0
Line d ds sl s step w y = Turn ds w y d × StoodRow sl s (w + 7 * step) y

pub line : {A : Type 0} (z : A) {ds sl : ℕ} {s : Stand} {step w h y : ℕ} {f : ℕ → ℕ → A} {d₀ d : List A} → Lines (length d₀) ds sl s step w h
    → Filled ds w f d₀ h y d → y < h → Line d ds sl s step w y
line z {y = y} p g lt = (turn z g p.dst lt, stood_row y p.src lt)

-- of pixels
pub shown_line : {P : Type 0} {value : P → ℕ} {values : List P → List ℕ} (each : (l : List P) → values l ≡ map value l) {ds sl : ℕ} {s : Stand}
    {step w h y : ℕ} {f : ℕ → ℕ → ℕ} {d₀ d : List P} → Lines (length d₀) ds sl s step w h → Filled ds w f (values d₀) h y (values d) → y < h
    → Line d ds sl s step w y
shown_line each {y = y} p g lt = (shown_turn each g p.dst lt, stood_row y p.src lt)

-- where a filter's taps are said to be near, they are
pub told_near : (f : List ℤ) {said : Bool} → said ≡ leb (sum 8 (λ t. nat_abs (at f t))) 128 → said ≡ true → Near f
told_near f is e = leb-true _ _ (sym is ∙ e)

-- ---- a row, with a filter and without
module _ (n : ℕ) (src : List ℕ) (o step : ℕ) (f : List ℤ) where
  pub put-none : (M r k : ℕ) → step ≡ 0
      → row_of n (λ i. put (get_or src (o + i) 0)) ≡ row_of n (λ i. put_line M f r k step (λ t. get_or src (o + i + t * step) 0))
  unfolding put_line
  put-none M r k e = rw e (row_same 0 n _ _ λ i b. ap (λ (p : ℕ). get_or src p 0) (omega arith))

  pub prep-none : (B P k : ℕ) → step ≡ 0
      → row_of n (λ i. prep B P (get_or src (o + i) 0)) ≡ row_of n (λ i. prep_line B P f k step (λ t. get_or src (o + i + t * step) 0))
  unfolding prep_line
  prep-none B P k e = rw e (row_same (pos 0) n _ _ λ i b. ap (λ (p : ℕ). prep B P (get_or src p 0)) (omega arith))

pub put_some : (M : ℕ) (f : List ℤ) (r n step : ℕ) (x : ℕ → ℕ) → 0 < step → clip M (tapped f r n (λ t. pos (x t))) ≡ put_line M f r n step x
unfolding put_line
put_some M f r n zero x h = absurd (omega arith)
put_some M f r n (suc s) x h = refl

pub prep_some : (B P : ℕ) (f : List ℤ) (n step : ℕ) (x : ℕ → ℕ) → 0 < step
    → minus16 (low16 (tapped f (half n) n (λ t. pos (x t)))) (pos P) ≡ prep_line B P f n step x
unfolding prep_line
prep_some B P f n zero x h = absurd (omega arith)
prep_some B P f n (suc s) x h = refl
