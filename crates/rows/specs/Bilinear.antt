-- Bilinear: the pixel as one rule on the pixels q a b at column a and row b from the place, for a and b from 0 to 1. Assumes nothing.
use Rattle.std.specs.Prelude.{ℕ, zero, suc, ◌+◌, ◌-◌, ◌^◌, ℤ, pos, ◌+ℤ◌, ◌-ℤ◌, ◌*ℤ◌}
use Rattle.rows.specs.Numbers.{clip, half, low16, minus16, ◌>>◌}
use Rattle.rows.specs.Copy.{put, prep}

-- "Bilinear of a, b at f: 16a + f(b-a)"
unfoldable pub bilin : ℤ → ℤ → ℕ → ℤ
bilin a b f = pos 16 *ℤ a +ℤ pos f *ℤ (b -ℤ a)

-- "R(n) adds half of 2^n, nothing for n = 0, and shifts by n"
unfoldable pub R : ℕ → ℤ → ℤ
R n v = v +ℤ pos (half n) >> n

-- along row b
unfoldable pub along : ℕ → (ℕ → ℕ → ℕ) → ℕ → ℤ
along f q b = bilin (pos (q 0 b)) (pos (q 1 b)) f

-- down column 0
unfoldable pub down : ℕ → (ℕ → ℕ → ℕ) → ℤ
down f q = bilin (pos (q 0 0)) (pos (q 0 1)) f

-- "both R(4-B) kept as low16", of row b
unfoldable pub bilin_mid : (B : ℕ) → ℕ → (ℕ → ℕ → ℕ) → ℕ → ℤ
bilin_mid B f q b = low16 (R (4 - B) (along f q b))

-- "Put: horizontal only R(4-B), then add 2^(B-1) and shift by B; vertical only R(4); both .. then R(4+B)"; "Put clips"
unfoldable pub put_bilin : (M B : ℕ) → ℕ → ℕ → (ℕ → ℕ → ℕ) → ℕ
put_bilin M B zero zero q = put (q 0 0)
put_bilin M B (suc f) zero q = clip M (R (4 - B) (along (suc f) q 0) +ℤ pos (2 ^ (B - 1)) >> B)
put_bilin M B zero (suc g) q = clip M (R 4 (down (suc g) q))
put_bilin M B (suc f) (suc g) q = clip M (R (4 + B) (bilin (bilin_mid B (suc f) q 0) (bilin_mid B (suc f) q 1) (suc g)))

-- "Prep: one axis R(4-B), both R(4-B) then R(4); low16, minus P"
unfoldable pub prep_bilin : (B P : ℕ) → ℕ → ℕ → (ℕ → ℕ → ℕ) → ℤ
prep_bilin B P zero zero q = prep B P (q 0 0)
prep_bilin B P (suc f) zero q = minus16 (low16 (R (4 - B) (along (suc f) q 0))) (pos P)
prep_bilin B P zero (suc g) q = minus16 (low16 (R (4 - B) (down (suc g) q))) (pos P)
prep_bilin B P (suc f) (suc g) q = minus16 (low16 (R 4 (bilin (bilin_mid B (suc f) q 0) (bilin_mid B (suc f) q 1) (suc g)))) (pos P)
