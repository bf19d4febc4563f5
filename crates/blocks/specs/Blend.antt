-- `blend`, `morph`: the tests of their calls, and their answers. deep is the outcome of the depth's test, true for bytes. Assumes nothing.
use Rattle.std.specs.Prelude.{ℕ, zero, suc, ◌*◌, ◌/◌, ◌%◌, ◌^◌, leb, eqb, ℤ, get_or, length, Bool, List, [], ◌∷◌, ◌++◌, ◌≡◌}
use Rattle.rows.specs.Numbers.{is_within}
use Rattle.rows.specs.Depth.{max_of}
use Rattle.rows.specs.Places.{pick, pixel, fill}
use Rattle.rows.specs.Combine.{blend, morph}
use Rattle.rows.specs.Warp.{every}
use Rattle.blocks.specs.Refuse.{Test, size, stride, number, read, written, above64, ◌asks◌, lowest, or_same, size_ok, block_side, stride_ok, holds, holds_all}
use Rattle.blocks.specs.declared.blend.Spot.{Spot}

-- "meets a mask value above 64" where this fails: in each of the block's h rows, each of the w values is at most 64
unfoldable pub none_above : List ℕ → (w h : ℕ) → Bool
none_above mask w h = every h (λ j. every w (λ i. leb (pixel mask w i j) 64))

-- the first of the n values from place k of the mask on that is above 64, or n places further
unfoldable pub first_above : List ℕ → (k n : ℕ) → ℕ
first_above mask k zero = k
first_above mask k (suc n) = pick (leb (get_or mask k 0) 64) (first_above mask (suc k) n) k

-- all but the mask's values
abbrev pub blend_shape : (dl dstStride tl w h ml : ℕ) → List Test
blend_shape dl dstStride tl w h ml =
    size asks size_ok block_side w
    ∷ size asks size_ok block_side h
    ∷ stride asks stride_ok w dstStride
    ∷ read asks holds_all tl w h
    ∷ read asks holds_all ml w h
    ∷ written asks holds dl dstStride w h
    ∷ []

abbrev pub blend_tests : (dl dstStride tl w h : ℕ) → List ℕ → List Test
blend_tests dl dstStride tl w h mask = blend_shape dl dstStride tl w h (length mask) ++ (above64 asks none_above mask w h ∷ [])

-- "Number 7 also gives row and column of the first such value in reading order"; zeros with every other number
abbrev pub spot_at : (w p : ℕ) → Spot
spot_at w p = record { row = p / w; col = p % w }

unfoldable pub spot_of : (r w h : ℕ) → List ℕ → Spot
spot_of r w h mask = pick (eqb r 7) (spot_at w (first_above mask 0 (w * h))) (record { row = 0; col = 0 })

-- what `blend` answers: the number r, dst at the end, and the place; dst is "both read and written"
abbrev pub BlendAnswer : (dst : List ℕ) (dstStride : ℕ) (tmp : List ℕ) (w h : ℕ) (mask : List ℕ) → (r : ℕ) (dst' : List ℕ) (row col : ℕ) → Type 0
BlendAnswer dst dstStride tmp w h mask r dst' row col =
    (r ≡ lowest (blend_tests (length dst) dstStride (length tmp) w h mask))
    × (dst' ≡ or_same r (fill dst dstStride w h (λ i j. blend (pixel mask w i j) (pixel dst dstStride i j) (pixel tmp w i j))) dst)
    × (record { row = row; col = col } ≡ spot_of r w h mask)

-- ---- morph: "Morph alpha within ±2^14, beta within ±2^22"
abbrev pub morph_tests : (deep : Bool) (dl dstStride : ℕ) (alpha beta : ℤ) (w h : ℕ) → List Test
morph_tests deep dl dstStride alpha beta w h =
    size asks size_ok block_side w
    ∷ size asks size_ok block_side h
    ∷ stride asks stride_ok w dstStride
    ∷ number asks deep
    ∷ number asks is_within (2 ^ 14) alpha
    ∷ number asks is_within (2 ^ 22) beta
    ∷ written asks holds dl dstStride w h
    ∷ []

-- what `morph` answers, at the depth
abbrev pub MorphAnswer : (deep : Bool) (depth : ℕ) (dst : List ℕ) (dstStride : ℕ) (alpha beta : ℤ) (w h : ℕ) → (r : ℕ) (dst' : List ℕ) → Type 0
MorphAnswer deep depth dst dstStride alpha beta w h r dst' =
    (r ≡ lowest (morph_tests deep (length dst) dstStride alpha beta w h))
    × (dst' ≡ or_same r (fill dst dstStride w h (λ i j. morph (max_of depth) alpha beta (pixel dst dstStride i j))) dst)
