-- `warp_affine_8x8` and `warp_affine_8x8t`: the tests of a call, the same for both. dl, sl and tl are the lengths of dst (or tmp), src and warp; deep is the
-- outcome of the depth's test, true for bytes. Assumes nothing.
use Rattle.std.specs.Prelude.{ℕ, ◌/◌, ◌^◌, ℤ, Bool, List, [], ◌∷◌, ◌≡◌, length}
use Rattle.rows.specs.Depth.{bits_of, bias_of, max_of}
use Rattle.rows.specs.Places.{fill, around}
use Rattle.rows.specs.Numbers.{is_within}
use Rattle.rows.specs.Warp.{all_there, warp_put, warp_prep}
use Rattle.blocks.specs.Refuse.{Test, stride, number, table, read, written, ◌asks◌, lowest, or_same, stride_ok, holds, reads, whole_filters}

-- "Warp mx and my within ±2^20"
unfoldable pub warp_place_ok : ℤ → Bool
warp_place_ok m = is_within (2 ^ 20) m

abbrev pub warp_tests : (deep : Bool) (dl dstStride sl srcStride srcOff : ℕ) (a b c d mx my : ℤ) (tl : ℕ) → List Test
warp_tests deep dl dstStride sl srcStride srcOff a b c d mx my tl =
    stride asks stride_ok 8 dstStride
    ∷ stride asks stride_ok 8 srcStride
    ∷ number asks deep
    ∷ number asks warp_place_ok mx
    ∷ number asks warp_place_ok my
    ∷ table asks whole_filters tl
    ∷ table asks all_there (tl / 8) mx my a b c d
    ∷ read asks reads sl srcOff srcStride 8 8 3 4 3 4
    ∷ written asks holds dl dstStride 8 8
    ∷ []

-- what `warp_affine_8x8` and `warp_affine_8x8t` answer, at the depth: the number r, and dst or tmp at the end
abbrev pub WarpAnswer : (deep : Bool) (depth : ℕ) (dst : List ℕ) (dstStride : ℕ) (src : List ℕ) (srcStride srcOff : ℕ) (a b c d mx my : ℤ) (warp : List ℤ)
    → (r : ℕ) (dst' : List ℕ) → Type 0
WarpAnswer deep depth dst dstStride src srcStride srcOff a b c d mx my warp r dst' =
    (r ≡ lowest (warp_tests deep (length dst) dstStride (length src) srcStride srcOff a b c d mx my (length warp)))
    × (dst' ≡ or_same r (fill dst dstStride 8 8 (λ i j. warp_put (max_of depth) (bits_of depth) warp mx my a b c d i j (around 3 src srcOff srcStride i j))) dst)

abbrev pub WarpTAnswer : (deep : Bool) (depth : ℕ) (tmp : List ℤ) (tmpStride : ℕ) (src : List ℕ) (srcStride srcOff : ℕ) (a b c d mx my : ℤ) (warp : List ℤ)
    → (r : ℕ) (tmp' : List ℤ) → Type 0
WarpTAnswer deep depth tmp tmpStride src srcStride srcOff a b c d mx my warp r tmp' =
    (r ≡ lowest (warp_tests deep (length tmp) tmpStride (length src) srcStride srcOff a b c d mx my (length warp)))
    × (tmp' ≡ or_same r (fill tmp tmpStride 8 8 (λ i j. warp_prep (bits_of depth) (bias_of depth) warp mx my a b c d i j (around 3 src srcOff srcStride i j))) tmp)
