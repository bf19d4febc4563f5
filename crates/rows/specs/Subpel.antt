-- 8-tap: the filter of an axis, and the pixel as one rule on the pixels around a place. Assumes nothing.
use Rattle.std.specs.Prelude.{ℕ, zero, suc, ◌+◌, ◌-◌, ◌*◌, ◌%◌, ltb, ℤ, pos, negsuc, ◌+ℤ◌, ◌*ℤ◌, cond, List}
use Rattle.rows.specs.Numbers.{at, clip, half, low16, minus16, sum_z, ◌>>◌}
use Rattle.rows.specs.Places.{row_of}
use Rattle.rows.specs.Copy.{put, prep}

-- "eight signed bytes to a filter": filter number n of a lent table
unfoldable pub filter : List ℤ → ℕ → List ℤ
filter table n = row_of 8 (λ t. at table (8 * n + t))

-- "Fraction 0 means no filter on that axis", else there are eight taps
pub data Axis : Type 0 where
  whole : Axis
  by : List ℤ → Axis

-- "a side above 4 uses family `type`, a side of 4 or less uses family 3 + (type & 1)"
unfoldable pub family : ℕ → ℕ → ℕ
family type side = cond (ltb 4 side) type (3 + type % 2)

-- "otherwise filter number fraction-1. Type -1 uses ext"; subpel is "5 families of 15 filters"
unfoldable pub axis : (subpel ext : List ℤ) (type : ℤ) (fraction side : ℕ) → Axis
axis subpel ext type zero side = whole
axis subpel ext (negsuc t) (suc f) side = by (filter ext f)
axis subpel ext (pos t) (suc f) side = by (filter subpel (15 * family t side + f))

-- "N is 6, or 7 for type -1"
abbrev pub filter_bits : ℤ → ℕ
filter_bits (pos t) = 6
filter_bits (negsuc t) = 7

-- "Each filter sum is S": the taps of f times the eight numbers x 0 to x 7, which "stand at -3 to +4"
unfoldable pub S : List ℤ → (ℕ → ℤ) → ℤ
S f x = sum_z 8 (λ t. at f t *ℤ x t)

-- (S + r) >> n
unfoldable pub tapped : List ℤ → (r n : ℕ) → (ℕ → ℤ) → ℤ
tapped f r n x = S f x +ℤ pos r >> n

-- The rules read q a b, the pixel at column a - 3 and row b - 3 from the place, for a and b from 0 to 7.

-- "rows -3 to h+3 become low16((S + 2^(N-B-1)) >> (N-B))"; of these, what stands at row b - 3
unfoldable pub mid : (B N : ℕ) → List ℤ → (ℕ → ℕ → ℕ) → ℕ → ℤ
mid B N f q b = low16 (tapped f (half (N - B)) (N - B) (λ a. pos (q a b)))

-- put, "horizontal only: clip((S + 2^(N-1) + 2^(N-B-1)) >> N); vertical only: clip((S + 2^(N-1)) >> N)"; "both: .. clip((S + 2^(N+B-1)) >> (N+B))"
unfoldable pub put8 : (M B N : ℕ) → Axis → Axis → (ℕ → ℕ → ℕ) → ℕ
put8 M B N whole whole q = put (q 3 3)
put8 M B N (by f) whole q = clip M (tapped f (half N + half (N - B)) N (λ a. pos (q a 3)))
put8 M B N whole (by g) q = clip M (tapped g (half N) N (λ b. pos (q 3 b)))
put8 M B N (by f) (by g) q = clip M (tapped g (half (N + B)) (N + B) (mid B N f q))

-- "prep, one axis: low16((S + 2^(N-B-1)) >> (N-B)) minus P"; both: "prep gives low16((S + 2^(N-1)) >> N) minus P"
unfoldable pub prep8 : (B P N : ℕ) → Axis → Axis → (ℕ → ℕ → ℕ) → ℤ
prep8 B P N whole whole q = prep B P (q 3 3)
prep8 B P N (by f) whole q = minus16 (low16 (tapped f (half (N - B)) (N - B) (λ a. pos (q a 3)))) (pos P)
prep8 B P N whole (by g) q = minus16 (low16 (tapped g (half (N - B)) (N - B) (λ b. pos (q 3 b)))) (pos P)
prep8 B P N (by f) (by g) q = minus16 (low16 (tapped g (half N) N (mid B N f q))) (pos P)
