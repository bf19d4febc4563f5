-- Warp: the filter numbers, and the two passes as one rule on the pixels around a place. Assumes nothing.
use Rattle.std.specs.Prelude.{ℕ, zero, suc, ◌+◌, ◌-◌, ltb, ℤ, pos, negsuc, nat_abs, ◌+ℤ◌, ◌*ℤ◌, Bool, true, false, ◌&&◌, List}
use Rattle.rows.specs.Numbers.{clip, half, low16, minus16, ◌>>◌}
use Rattle.rows.specs.Subpel.{filter, tapped}

-- "At the r-th of these rows (r from 0) and column c from 0 the filter is 192 + ((mx + c x abcd[0] + r x abcd[1] + 512) >> 10)"
unfoldable pub filter_no : (m a b : ℤ) → (r c : ℕ) → ℤ
filter_no m a b r c = pos 192 +ℤ (m +ℤ pos c *ℤ a +ℤ pos r *ℤ b +ℤ pos 512 >> 10)

-- it is one of the table's n filters
unfoldable pub is_there : ℕ → ℤ → Bool
is_there n (pos k) = ltb k n
is_there n (negsuc k) = false

-- the test holds of 0, 1, .. n - 1
unfoldable pub every : ℕ → (ℕ → Bool) → Bool
every zero test = true
every (suc n) test = every n test && test n

-- "one of these 184 filter numbers isn't in the table" where this fails: 15 rows of the first pass, 8 of the second, eight columns each
unfoldable pub all_there : ℕ → (mx my a b c d : ℤ) → Bool
all_there n mx my a b c d =
    every 15 (λ r. every 8 (λ i. is_there n (filter_no mx a b r i))) && every 8 (λ r. every 8 (λ i. is_there n (filter_no my c d r i)))

-- (S + half) >> n with the filter at row r and column c of a pass
unfoldable pub warped : List ℤ → (m a b : ℤ) → (n r c : ℕ) → (ℕ → ℤ) → ℤ
warped table m a b n r c x = tapped (filter table (nat_abs (filter_no m a b r c))) (half n) n x

-- The rules read q a b, the pixel at column a - 3 and row b - 3 from column i of row j of the block: "Taps stand as in 8-tap".

-- the first pass, "rows -3 to 11 .. result low16((S + half) >> (7-B))": what stands at row b - 3 from the place, the (j + b)-th of these rows
unfoldable pub warp_mid : (B : ℕ) → List ℤ → (mx a b : ℤ) → (i j : ℕ) → (ℕ → ℕ → ℕ) → ℕ → ℤ
warp_mid B table mx a b i j q v = low16 (warped table mx a b (7 - B) (j + v) i (λ u. pos (q u v)))

-- "The second pass, vertical .. uses my, abcd[2], abcd[3] in the same way and shifts by 7+B (put: low16, then clip)"
unfoldable pub warp_put : (M B : ℕ) → List ℤ → (mx my a b c d : ℤ) → (i j : ℕ) → (ℕ → ℕ → ℕ) → ℕ
warp_put M B table mx my a b c d i j q = clip M (low16 (warped table my c d (7 + B) j i (warp_mid B table mx a b i j q)))

-- "or 7 (8x8t: low16, minus P)"
unfoldable pub warp_prep : (B P : ℕ) → List ℤ → (mx my a b c d : ℤ) → (i j : ℕ) → (ℕ → ℕ → ℕ) → ℤ
warp_prep B P table mx my a b c d i j q = minus16 (low16 (warped table my c d 7 j i (warp_mid B table mx a b i j q))) (pos P)
