-- `w_mask`: the tests of a call. l1, l2 and ml are the lengths of the two intermediates and the mask; deep is the outcome of the depth's test, true for
-- bytes. Assumes nothing.
use Rattle.std.specs.Prelude.{ℕ, ◌*◌, ◌/◌, ◌%◌, eqb, ℤ, pos, Bool, not, ◌||◌, List, [], ◌∷◌, ◌≡◌, length}
use Rattle.rows.specs.Depth.{bits_of, bias_of, max_of}
use Rattle.rows.specs.Combine.{masked, both}
use Rattle.rows.specs.WMask.{weight_of, mask_at}
use Rattle.rows.specs.Numbers.{up, between}
use Rattle.rows.specs.Places.{pick, fill}
use Rattle.blocks.specs.Combine.{Combined}
use Rattle.blocks.specs.Refuse.{Test, size, stride, number, read, written, ◌asks◌, lowest, or_same, size_ok, block_side, stride_ok, holds, holds_all}

-- not "odd w with ss_hor, or odd h with ss_ver"
unfoldable pub even_ok : Bool → ℕ → Bool
even_ok flag n = not flag || eqb (n % 2) 0

-- a side of the mask
abbrev pub mask_side : Bool → ℕ → ℕ
mask_side flag n = pick flag (n / 2) n

-- not "ss_ver without ss_hor"
unfoldable pub flags_ok : Bool → Bool → Bool
flags_ok ssHor ssVer = ssHor || not ssVer

-- "Mask sign 0 or 1"
unfoldable pub sign_ok : ℤ → Bool
sign_ok sign = between (pos 0) (pos 1) sign

-- "A buffer both read and written (.. the mask of w_mask ..) counts as written only"
abbrev pub w_mask_tests : (deep : Bool) (dl dstStride l1 l2 w h ml maskStride : ℕ) (sign : ℤ) (ssHor ssVer : Bool) → List Test
w_mask_tests deep dl dstStride l1 l2 w h ml maskStride sign ssHor ssVer =
    size asks size_ok block_side w
    ∷ size asks size_ok block_side h
    ∷ size asks even_ok ssHor w
    ∷ size asks even_ok ssVer h
    ∷ stride asks stride_ok w dstStride
    ∷ stride asks stride_ok (mask_side ssHor w) maskStride
    ∷ number asks deep
    ∷ number asks sign_ok sign
    ∷ number asks flags_ok ssHor ssVer
    ∷ read asks holds_all l1 w h
    ∷ read asks holds_all l2 w h
    ∷ written asks holds dl dstStride w h
    ∷ written asks holds ml maskStride (mask_side ssHor w) (mask_side ssVer h)
    ∷ []

-- the weight at column i of row j
abbrev pub weights : (depth w : ℕ) (tmp1 tmp2 : List ℤ) → ℕ → ℕ → ℕ
weights depth w tmp1 tmp2 i j = both (weight_of depth (bits_of depth)) tmp1 tmp2 (j * w) i

-- what `w_mask` answers, at the depth: the number r, and dst and the mask at the end; the pixel is "as in mask"
abbrev pub WMaskAnswer : (deep : Bool) (depth : ℕ) (dst : List ℕ) (dstStride : ℕ) (tmp1 tmp2 : List ℤ) (w h : ℕ)
    (mask : List ℕ) (maskStride : ℕ) (sign : ℤ) (ssHor ssVer : Bool) → (r : ℕ) (dst' mask' : List ℕ) → Type 0
WMaskAnswer deep depth dst dstStride tmp1 tmp2 w h mask maskStride sign ssHor ssVer r dst' mask' =
    (r ≡ lowest (w_mask_tests deep (length dst) dstStride (length tmp1) (length tmp2) w h (length mask) maskStride sign ssHor ssVer))
    × Combined dst dstStride w h tmp1 tmp2 (λ i j. masked (max_of depth) (bits_of depth) (bias_of depth) (weights depth w tmp1 tmp2 i j)) r dst'
    × (mask' ≡ or_same r (fill mask maskStride (mask_side ssHor w) (mask_side ssVer h) (mask_at (up sign) ssHor ssVer (weights depth w tmp1 tmp2))) mask)
