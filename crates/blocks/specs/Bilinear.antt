-- `put_bilin` and `prep_bilin`: the tests of a call, the same for both. dl and sl are the lengths of dst (or tmp) and src; deep is the outcome of the depth's
-- test, true for bytes. Assumes nothing.
use Rattle.std.specs.Prelude.{ℕ, ℤ, Bool, List, [], ◌∷◌, ◌≡◌, length}
use Rattle.rows.specs.Depth.{bits_of, bias_of, max_of}
use Rattle.rows.specs.Places.{fill, around}
use Rattle.rows.specs.Bilinear.{put_bilin, prep_bilin}
use Rattle.rows.specs.Numbers.{up}
use Rattle.blocks.specs.Refuse.{Test, size, stride, number, read, written, ◌asks◌, lowest, or_same, size_ok, block_side, stride_ok, holds, reads}
use Rattle.blocks.specs.Subpel.{on, sixteenth_ok}

-- a place of fraction 0 on an axis is read alone, any other with the next
abbrev pub bilin_tests : (deep : Bool) (dl dstStride sl srcStride w h : ℕ) (mx my : ℤ) → List Test
bilin_tests deep dl dstStride sl srcStride w h mx my =
    size asks size_ok block_side w
    ∷ size asks size_ok block_side h
    ∷ stride asks stride_ok w dstStride
    ∷ stride asks stride_ok w srcStride
    ∷ number asks deep
    ∷ number asks sixteenth_ok mx
    ∷ number asks sixteenth_ok my
    ∷ read asks reads sl 0 srcStride w h 0 (on mx) 0 (on my)
    ∷ written asks holds dl dstStride w h
    ∷ []

-- what `put_bilin` and `prep_bilin` answer, at the depth: the number r, and dst or tmp at the end
abbrev pub PutBilinAnswer : (deep : Bool) (depth : ℕ) (dst : List ℕ) (dstStride : ℕ) (src : List ℕ) (srcStride w h : ℕ) (mx my : ℤ)
    → (r : ℕ) (dst' : List ℕ) → Type 0
PutBilinAnswer deep depth dst dstStride src srcStride w h mx my r dst' =
    (r ≡ lowest (bilin_tests deep (length dst) dstStride (length src) srcStride w h mx my))
    × (dst' ≡ or_same r (fill dst dstStride w h (λ i j. put_bilin (max_of depth) (bits_of depth) (up mx) (up my) (around 0 src 0 srcStride i j))) dst)

abbrev pub PrepBilinAnswer : (deep : Bool) (depth : ℕ) (tmp : List ℤ) (tmpStride : ℕ) (src : List ℕ) (srcStride w h : ℕ) (mx my : ℤ)
    → (r : ℕ) (tmp' : List ℤ) → Type 0
PrepBilinAnswer deep depth tmp tmpStride src srcStride w h mx my r tmp' =
    (r ≡ lowest (bilin_tests deep (length tmp) tmpStride (length src) srcStride w h mx my))
    × (tmp' ≡ or_same r (fill tmp tmpStride w h (λ i j. prep_bilin (bits_of depth) (bias_of depth) (up mx) (up my) (around 0 src 0 srcStride i j))) tmp)
