-- `w_mask`: the weight of two intermediates, and what the mask keeps of the weights. Assumes nothing.
use Rattle.std.specs.Prelude.{ℕ, ◌+◌, ◌-◌, ◌*◌, ◌/◌, ◌^◌, min, ℤ, Bool, true, false}
use Rattle.rows.specs.Numbers.{apart}

-- "T = depth + B - 4; m = min(38 + ((|a-b| + 2^(T-5)) >> T), 64)"; the pixel is "as in mask", with this weight
unfoldable pub weight_of : (depth B : ℕ) → ℤ → ℤ → ℕ
weight_of depth B a b = let T = depth + B - 4 in min (38 + (apart a b + 2 ^ (T - 5)) / 2 ^ T) 64

-- "pairs give (m+n+1-sign) >> 1"
abbrev pub pair_of : ℕ → ℕ → ℕ → ℕ
pair_of sign m n = (m + n + 1 - sign) / 2 ^ 1

-- "the four weights of two rows give (sum + 2 - sign) >> 2"
abbrev pub four_of : ℕ → ℕ → ℕ
four_of sign sum = (sum + 2 - sign) / 2 ^ 2

-- what the mask keeps at its column i and row j, of the weights m: "Without ss_hor the mask keeps m. With it, pairs ..; with ss_ver too, the four .."
unfoldable pub mask_at : (sign : ℕ) (ss_hor ss_ver : Bool) → (ℕ → ℕ → ℕ) → ℕ → ℕ → ℕ
mask_at sign false ss_ver m i j = m i j
mask_at sign true false m i j = pair_of sign (m (2 * i) j) (m (2 * i + 1) j)
mask_at sign true true m i j =
    four_of sign (m (2 * i) (2 * j) + m (2 * i + 1) (2 * j) + m (2 * i) (2 * j + 1) + m (2 * i + 1) (2 * j + 1))
