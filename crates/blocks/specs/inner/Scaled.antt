-- A reference of another size, as the code goes. Only inner contracts name this: nobody need believe it. Assumes nothing.
use Rattle.std.specs.Prelude.{ℕ, ◌+◌, ◌-◌, ◌*◌, ◌%◌, ◌≤◌, ◌<◌, ℤ, eqb, cond, List, ◌≡◌, length, get_or}
use Rattle.rows.specs.Places.{row_of}
use Rattle.rows.specs.Numbers.{up, at, px, low16}
use Rattle.rows.specs.Subpel.{family}
use Rattle.rows.specs.Bilinear.{R}
use Rattle.rows.specs.inner.Bilinear.{bilin_at}
use Rattle.rows.specs.Scaled.{position, pixel_of, sixteenth, in_family, scaled_mid}
use Rattle.rows.specs.inner.Scaled.{eight_at, Fetched, Steps}
use Rattle.blocks.specs.inner.Source.{row_first, Stood}
use Rattle.blocks.specs.declared.scaled.ScaledPlan.{ScaledPlan}
use Rattle.blocks.specs.declared.source.Stand.{Stand}

-- a plan's numbers: where the source's rows stand, its positions, the families of its width and height, and B
unfoldable pub scaled_plan : Stand → (mx my dx dy filterType : ℤ) (w h B : ℕ) → ScaledPlan
scaled_plan s mx my dx dy filterType w h B =
    record {
      stand = s;
      mx = up mx;
      my = up my;
      dx = up dx;
      dy = up dy;
      wide = family (up filterType) w;
      high = family (up filterType) h;
      bits = B;
    }

-- column i of row k of these rows, by 8-tap
unfoldable pub line_of : List ℕ → List ℤ → ScaledPlan → ℕ → ℕ → ℤ
line_of src subpel p k i =
    scaled_mid p.bits (in_family subpel p.wide (sixteenth (position p.mx p.dx i)))
    (eight_at (λ q. get_or src q 0) (row_first p.stand k) (position p.mx p.dx i))

-- and by bilinear
unfoldable pub pair_line_of : List ℕ → ScaledPlan → ℕ → ℕ → ℤ
pair_line_of src p k i =
    low16
    (R (4 - p.bits)
    (bilin_at (px src) (row_first p.stand k + pixel_of (position p.mx p.dx i)) 1 (sixteenth (position p.mx p.dx i))))

-- "Keep the last eight filtered rows in a record with their order", 64 places each: after n rows, row k stands at k % 8, its column i at place
-- 64 (k % 8) + i, and the order lists where the last eight stand, from the oldest to the newest
pub record LastEight (w : ℕ) (line : ℕ → ℕ → ℤ) (n : ℕ) (rows : List ℤ) (order : List ℕ) : Type 0 where
  pub size : length rows ≡ 512
  pub turns : order ≡ row_of 8 (λ t. (n + t) % 8)
  pub stands : (k i : ℕ) → k < n → n ≤ k + 8 → i < w → at rows (k % 8 * 64 + i) ≡ line k i

-- such an order: the first place, and from there on round the eight
abbrev pub Turned : List ℕ → Type 0
Turned order = (get_or order 0 0 < 8) × (order ≡ row_of 8 (λ t. (get_or order 0 0 + t) % 8))

-- bilinear keeps the last two rows, by parity: after n rows, row k stands at k % 2
pub record LastTwo (w : ℕ) (line : ℕ → ℕ → ℤ) (n : ℕ) (rows : List ℤ) : Type 0 where
  pub stands : (k i : ℕ) → k < n → n ≤ k + 2 → i < w → at rows (k % 2 * 64 + i) ≡ line k i

-- of the two rows that position p is between, the one of an even number comes first: the fraction from there
unfoldable pub by_parity : ℕ → ℕ
by_parity p = cond (eqb (pixel_of p % 2) 0) (sixteenth p) (16 - sixteenth p)

-- what n filtered rows of w rely on, by 8-tap with a table of tl numbers and by bilinear, where B is 2 or 4
pub record Filtered (sl tl : ℕ) (p : ScaledPlan) (w n : ℕ) : Type 0 where
  pub w1 : 1 ≤ w
  pub w64 : w ≤ 64
  pub across : Steps p.mx p.dx
  pub down : Steps p.my p.dy
  pub wide : p.wide ≤ 4
  pub high : p.high ≤ 4
  pub table : tl ≡ 600
  pub rows : Stood sl p.stand 1 n
  pub fetched : (k i : ℕ) → k < n → i < w → Fetched sl (row_first p.stand k) (position p.mx p.dx i)

pub record Paired (sl : ℕ) (p : ScaledPlan) (w n : ℕ) : Type 0 where
  pub w1 : 1 ≤ w
  pub w64 : w ≤ 64
  pub across : Steps p.mx p.dx
  pub down : Steps p.my p.dy
  pub even : p.bits % 2 ≡ 0
  pub rows : Stood sl p.stand 1 n
  pub fetched : (k i : ℕ) → k < n → i < w → row_first p.stand k + pixel_of (position p.mx p.dx i) + 1 < sl
