-- 8-tap, as the code goes. Only inner contracts name this: nobody need believe it. Assumes nothing.
use Rattle.std.specs.Prelude.{ℕ, zero, suc, ◌+◌, ◌-◌, ◌*◌, ◌≤◌, ℤ, pos, negsuc, true, false, List, get_or}
use Rattle.rows.specs.Places.{row_of}
use Rattle.rows.specs.Numbers.{at, half, clip, low16, minus16}
use Rattle.rows.specs.Copy.{put, prep}
use Rattle.rows.specs.Subpel.{Axis, whole, by, filter, family, axis, tapped}
use Rattle.blocks.specs.declared.subpel.plan.Filter.{Filter}
use Rattle.blocks.specs.declared.subpel.plan.Filter.TheVariants.{Off, Ext, Subpel}
use Rattle.blocks.specs.declared.subpel.plan.Plan.{Plan}
use Rattle.blocks.specs.declared.source.Stand.{Stand}
use Rattle.blocks.specs.inner.Source.{stand_at, row_first}

-- what each case of the code's filter is: none, or the filter of that number in ext or in subpel
unfoldable pub axis_of : (subpel ext : List ℤ) → Filter → Axis
axis_of subpel ext Off = whole
axis_of subpel ext (Ext n) = by (filter ext n)
axis_of subpel ext (Subpel n) = by (filter subpel n)

-- the filter that the numbers choose; as an axis it is `axis` (Laws/Subpel/Choice)
unfoldable pub filter_of : (filterType : ℤ) (fraction side : ℕ) → Filter
filter_of filterType zero side = Off
filter_of (negsuc t) (suc f) side = Ext f
filter_of (pos t) (suc f) side = Subpel (15 * family t side + f)

-- it is in its table
abbrev pub Held : (tl el : ℕ) → Filter → Type 0
Held tl el Off = Unit {0}
Held tl el (Ext n) = 8 * n + 8 ≤ el
Held tl el (Subpel n) = 8 * n + 8 ≤ tl

-- the taps of an axis; where it has none, eight that nothing reads
unfoldable pub taps_of : Axis → List ℤ
taps_of whole = row_of 8 (λ t. pos 0)
taps_of (by f) = f

-- taps down a column in the order in which their rows stand in memory
unfoldable pub in_memory : (back : ℕ) → List ℤ → List ℤ
in_memory zero f = f
in_memory (suc b) f = row_of 8 (λ t. at f (7 - t))

-- how the rows of a block are made whose own rows stand as s says: N; whether the vertical filter follows after the horizontal; where the first taps of the
-- first filter stand in each row, and how far apart its taps are, 0 without a filter; put's rounding with one filter; the filters' taps
abbrev pub by_one : (bits : ℕ) → Stand → (step round : ℕ) → List ℤ → Plan
by_one bits rows step round f = record { bits = bits; both = false; rows = rows; step = step; round = round; first = f; second = f }

-- down a column, the taps are read from the lowest in memory on: that is three rows above, and four rows below where the rows stand before one another
unfoldable pub plan_of : Stand → (w h : ℕ) (subpel ext : List ℤ) (filterType : ℤ) (N B : ℕ) (mx my : ℕ) → Plan
plan_of s w h subpel ext filterType N B zero zero = by_one N s 0 (half N) (taps_of (axis subpel ext filterType zero h))
plan_of s w h subpel ext filterType N B zero (suc v) =
    by_one N (stand_at s (s.off - (3 * s.forth + 4 * s.back))) (s.forth + s.back) (half N)
    (in_memory s.back (taps_of (axis subpel ext filterType (suc v) h)))
plan_of s w h subpel ext filterType N B (suc u) zero =
    by_one N (stand_at s (s.off - 3)) 1 (half N + half (N - B)) (taps_of (axis subpel ext filterType (suc u) w))
plan_of s w h subpel ext filterType N B (suc u) (suc v) =
    record {
      bits = N;
      both = true;
      rows = stand_at s (s.off + 3 * s.back - (3 * s.forth + 3));
      step = 1;
      round = half N + half (N - B);
      first = taps_of (axis subpel ext filterType (suc u) w);
      second = taps_of (axis subpel ext filterType (suc v) h);
    }

-- a pixel by one filter at most, of the pixels x 0 to x 7 that stand a step apart: with step 0 of the pixel x 0 alone
unfoldable pub put_line : (M : ℕ) (f : List ℤ) (r n step : ℕ) → (ℕ → ℕ) → ℕ
put_line M f r n zero x = put (x 0)
put_line M f r n (suc s) x = clip M (tapped f r n (λ t. pos (x t)))

unfoldable pub prep_line : (B P : ℕ) (f : List ℤ) (n step : ℕ) → (ℕ → ℕ) → ℤ
prep_line B P f n zero x = prep B P (x 0)
prep_line B P f n (suc s) x = minus16 (low16 (tapped f (half n) n (λ t. pos (x t)))) (pos P)

-- these pixels, for column i of row j of rows that stand so
abbrev pub along : List ℕ → Stand → (step i j : ℕ) → ℕ → ℕ
along src s step i j t = get_or src (row_first s j + i + t * step) 0

-- the first of two passes: column i of row j of the plan's intermediates
abbrev pub first_pass : Plan → (B : ℕ) → List ℕ → (i j : ℕ) → ℤ
first_pass p B src i j = prep_line B 0 p.first (p.bits - B) p.step (along src p.rows p.step i j)

-- the plan from row y on
abbrev pub plan_from : Plan → (y : ℕ) → Plan
plan_from p y =
    record {
      bits = p.bits;
      both = p.both;
      rows = stand_at p.rows (row_first p.rows y);
      step = p.step;
      round = p.round;
      first = p.first;
      second = p.second;
    }
