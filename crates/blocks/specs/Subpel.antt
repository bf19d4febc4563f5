-- `put_8tap` and `prep_8tap`: the tests of a call, the same for both, and the rule of a block. dl, sl, tl and el are the lengths of dst (or tmp), src, subpel
-- and ext; deep is the outcome of the depth's test, true for bytes. Assumes nothing.
use Rattle.std.specs.Prelude.{ℕ, ◌*◌, min, leb, eqb, ℤ, pos, negsuc, Bool, ◌&&◌, ◌||◌, List, [], ◌∷◌, ◌≡◌, length}
use Rattle.std.specs.Int.Signed.{le_z, lt_z}
use Rattle.rows.specs.Depth.{bits_of, bias_of, max_of}
use Rattle.rows.specs.Places.{fill, around}
use Rattle.rows.specs.Numbers.{up, between}
use Rattle.rows.specs.Subpel.{axis, filter_bits, put8, prep8}
use Rattle.blocks.specs.Refuse.{Test, size, stride, number, table, read, written, ◌asks◌, lowest, or_same}
use Rattle.blocks.specs.Refuse.{size_ok, block_side, stride_ok, holds, reads, whole_filters}

-- "Filter type -1 to 2"
unfoldable pub type_ok : ℤ → Bool
type_ok filterType = between (negsuc 0) (pos 2) filterType

-- "Fractions 0 to 15"
unfoldable pub sixteenth_ok : ℤ → Bool
sixteenth_ok f = between (pos 0) (pos 15) f

-- "(8-tap with type -1: 0 upward)"
unfoldable pub fraction_ok : ℤ → ℤ → Bool
fraction_ok filterType f = sixteenth_ok f || (lt_z filterType (pos 0) && le_z (pos 0) f)

-- "subpel 5 families of 15 filters (600 numbers)"
unfoldable pub subpel_ok : ℕ → Bool
subpel_ok tl = eqb tl 600

-- "a needed filter isn't in it" can only be said of ext: filter number fraction-1, with type -1
unfoldable pub filter_in : ℤ → ℤ → ℕ → Bool
filter_in filterType f el = le_z (pos 0) filterType || leb (8 * up f) el

-- 1 where the axis has a filter, which "fraction 0" hasn't
abbrev pub on : ℤ → ℕ
on f = min (up f) 1

abbrev pub subpel_tests : (deep : Bool) (dl dstStride sl srcOff srcStride w h : ℕ) (mx my filterType : ℤ) (tl el : ℕ) → List Test
subpel_tests deep dl dstStride sl srcOff srcStride w h mx my filterType tl el =
    size asks size_ok block_side w
    ∷ size asks size_ok block_side h
    ∷ stride asks stride_ok w dstStride
    ∷ stride asks stride_ok w srcStride
    ∷ number asks deep
    ∷ number asks type_ok filterType
    ∷ number asks fraction_ok filterType mx
    ∷ number asks fraction_ok filterType my
    ∷ table asks subpel_ok tl
    ∷ table asks whole_filters el
    ∷ table asks filter_in filterType mx el
    ∷ table asks filter_in filterType my el
    ∷ read asks reads sl srcOff srcStride w h (3 * on mx) (4 * on mx) (3 * on my) (4 * on my)
    ∷ written asks holds dl dstStride w h
    ∷ []

-- the rule of a block of w columns and h rows, on the pixels around a place: "Width chooses the horizontal family, height the vertical"
unfoldable pub put8_rule : (M B : ℕ) (subpel ext : List ℤ) (mx my filterType : ℤ) (w h : ℕ) → (ℕ → ℕ → ℕ) → ℕ
put8_rule M B subpel ext mx my filterType w h =
    put8 M B (filter_bits filterType) (axis subpel ext filterType (up mx) w) (axis subpel ext filterType (up my) h)

unfoldable pub prep8_rule : (B P : ℕ) (subpel ext : List ℤ) (mx my filterType : ℤ) (w h : ℕ) → (ℕ → ℕ → ℕ) → ℤ
prep8_rule B P subpel ext mx my filterType w h =
    prep8 B P (filter_bits filterType) (axis subpel ext filterType (up mx) w) (axis subpel ext filterType (up my) h)

-- what `put_8tap` and `prep_8tap` answer, at the depth: the number r, and dst or tmp at the end
abbrev pub Put8Answer : (deep : Bool) (depth : ℕ) (dst : List ℕ) (dstStride : ℕ) (src : List ℕ) (srcOff srcStride w h : ℕ)
    (mx my filterType : ℤ) (subpel ext : List ℤ) → (r : ℕ) (dst' : List ℕ) → Type 0
Put8Answer deep depth dst dstStride src srcOff srcStride w h mx my filterType subpel ext r dst' =
    (r ≡ lowest (subpel_tests deep (length dst) dstStride (length src) srcOff srcStride w h mx my filterType (length subpel) (length ext)))
    × (dst'
    ≡ or_same r (fill dst dstStride w h (λ i j. put8_rule (max_of depth) (bits_of depth) subpel ext mx my filterType w h (around 3 src srcOff srcStride i j))) dst)

abbrev pub Prep8Answer : (deep : Bool) (depth : ℕ) (tmp : List ℤ) (tmpStride : ℕ) (src : List ℕ) (srcOff srcStride w h : ℕ)
    (mx my filterType : ℤ) (subpel ext : List ℤ) → (r : ℕ) (tmp' : List ℤ) → Type 0
Prep8Answer deep depth tmp tmpStride src srcOff srcStride w h mx my filterType subpel ext r tmp' =
    (r ≡ lowest (subpel_tests deep (length tmp) tmpStride (length src) srcOff srcStride w h mx my filterType (length subpel) (length ext)))
    × (tmp'
    ≡ or_same r
    (fill tmp tmpStride w h (λ i j. prep8_rule (bits_of depth) (bias_of depth) subpel ext mx my filterType w h (around 3 src srcOff srcStride i j)))
    tmp)
