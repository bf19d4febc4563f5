-- E1, a reference of another size: where a pixel stands in it, and the pixel as one rule that looks up each row directly. Assumes nothing.
use Rattle.std.specs.Prelude.{ℕ, zero, suc, ◌+◌, ◌-◌, ◌*◌, ◌/◌, ◌%◌, ◌^◌, ℤ, pos, ◌+ℤ◌, List}
use Rattle.rows.specs.Numbers.{clip, half, low16, minus16, ◌>>◌}
use Rattle.rows.specs.Subpel.{Axis, whole, by, filter, tapped}
use Rattle.rows.specs.Bilinear.{bilin, R, bilin_mid}

-- "Positions start at 0 to 1023 and step 0 to 4096, in 1/1024 of a pixel": that of column or row x
abbrev pub position : (start step x : ℕ) → ℕ
position start step x = start + x * step

-- the pixel that a position is in, counted from the block's first
abbrev pub pixel_of : ℕ → ℕ
pixel_of p = p / 1024

-- "the top four bits of the fraction", which has ten
abbrev pub sixteenth : ℕ → ℕ
sixteenth p = p % 1024 / 64

-- "filter numbers come from the top four bits of the fraction": as in 8-tap none for 0, otherwise the number less 1, of the family's fifteen
unfoldable pub in_family : (subpel : List ℤ) (family fraction : ℕ) → Axis
in_family subpel family zero = whole
in_family subpel family (suc f) = by (filter subpel (15 * family + f))

-- The rules read q a b, the pixel at column a - 3 and row b - 3 from the one that the position is in, for a and b from 0 to 7; N is 6, since "Types 0 to 2
-- only".

-- the intermediate of a row, of its pixels x 0 to x 7: it is made, and cut to sixteen bits, without a filter too
unfoldable pub scaled_mid : (B : ℕ) → Axis → (ℕ → ℕ) → ℤ
scaled_mid B whole x = low16 (pos (x 3 * 2 ^ B))
scaled_mid B (by f) x = low16 (tapped f (half (6 - B)) (6 - B) (λ a. pos (x a)))

-- put, of the intermediates m 0 to m 7 of the eight rows
unfoldable pub put_down : (M B : ℕ) → Axis → (ℕ → ℤ) → ℕ
put_down M B whole m = clip M (m 3 +ℤ pos (half B) >> B)
put_down M B (by g) m = clip M (tapped g (half (6 + B)) (6 + B) m)

-- and prep
unfoldable pub prep_down : (P : ℕ) → Axis → (ℕ → ℤ) → ℤ
prep_down P whole m = minus16 (m 3) (pos P)
prep_down P (by g) m = minus16 (low16 (tapped g (half 6) 6 m)) (pos P)

-- put and prep by the filters of both axes: the intermediates are the same, the last step isn't
unfoldable pub put_scaled : (M B : ℕ) → Axis → Axis → (ℕ → ℕ → ℕ) → ℕ
put_scaled M B across down q = put_down M B down (λ b. scaled_mid B across (λ a. q a b))

unfoldable pub prep_scaled : (B P : ℕ) → Axis → Axis → (ℕ → ℕ → ℕ) → ℤ
prep_scaled B P across down q = prep_down P down (λ b. scaled_mid B across (λ a. q a b))

-- bilinear, at the fractions f and g, of the pixels q a b at column a and row b, for a and b from 0 to 1: always by both axes
unfoldable pub put_bilin_scaled : (M B : ℕ) → ℕ → ℕ → (ℕ → ℕ → ℕ) → ℕ
put_bilin_scaled M B f g q = clip M (R (4 + B) (bilin (bilin_mid B f q 0) (bilin_mid B f q 1) g))

unfoldable pub prep_bilin_scaled : (B P : ℕ) → ℕ → ℕ → (ℕ → ℕ → ℕ) → ℤ
prep_bilin_scaled B P f g q = minus16 (low16 (R 4 (bilin (bilin_mid B f q 0) (bilin_mid B f q 1) g))) (pos P)
