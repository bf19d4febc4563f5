-- E1, `put_8tap_scaled`, `prep_8tap_scaled`, `put_bilin_scaled` and `prep_bilin_scaled`: the tests of a call, and the rule of a block. dl and sl are the
-- lengths of dst (or tmp) and src, o is the place of the block's first pixel, s the source's stride; eight is true for 8-tap, false for bilinear; deep is the
-- outcome of the depth's test, true for bytes. Assumes nothing.
use Rattle.std.specs.Prelude.{ℕ, ◌+◌, ◌-◌, ◌*◌, min, ℤ, pos, Bool, true, false, List, [], ◌∷◌, ◌≡◌, length}
use Rattle.rows.specs.Depth.{bits_of, bias_of, max_of}
use Rattle.rows.specs.Places.{fill, around}
use Rattle.rows.specs.Numbers.{up, between}
use Rattle.rows.specs.Subpel.{Axis, family}
use Rattle.rows.specs.Warp.{every}
use Rattle.rows.specs.Scaled.{position, pixel_of, sixteenth, in_family, put_scaled, prep_scaled, put_bilin_scaled, prep_bilin_scaled}
use Rattle.blocks.specs.Refuse.{Test, size, stride, number, table, read, written, ◌asks◌, lowest, or_same, size_ok, block_side, stride_ok, holds, reads}
use Rattle.blocks.specs.Subpel.{subpel_ok}

-- "Positions start at 0 to 1023"
unfoldable pub start_ok : ℤ → Bool
start_ok v = between (pos 0) (pos 1023) v

-- "and step 0 to 4096"
unfoldable pub step_ok : ℤ → Bool
step_ok v = between (pos 0) (pos 4096) v

-- "Types 0 to 2 only"
unfoldable pub scaled_type_ok : ℤ → Bool
scaled_type_ok t = between (pos 0) (pos 2) t

-- "A place counts as read where the Rust fetches it, also at fraction 0". What is fetched for the column at position p, in n rows from the block's first on.
-- 8-tap: in these, three rows above and four below, the pixel alone where the top four bits of its fraction are 0, otherwise all eight. Bilinear: in these
-- and one row below, the pixel and the next
unfoldable pub column_read : (eight : Bool) (sl o s n p : ℕ) → Bool
column_read true sl o s n p = reads sl (o + pixel_of p) s 1 n (3 * min (sixteenth p) 1) (4 * min (sixteenth p) 1) 3 4
column_read false sl o s n p = reads sl (o + pixel_of p) s 1 n 0 1 0 1

-- every column is so fetched, in every row from the first to the one that the block's last row is in, also in a row that a step passes over
unfoldable pub reads_scaled : (eight : Bool) (sl o s w h : ℕ) (mx my dx dy : ℤ) → Bool
reads_scaled eight sl o s w h mx my dx dy =
    every w (λ x. column_read eight sl o s (1 + pixel_of (position (up my) (up dy) (h - 1))) (position (up mx) (up dx) x))

-- "Refusals: start, step and type are number 3, with the old order". typed and tabled are the outcomes of the type's and the table's tests, true for bilinear
abbrev pub scaled_tests : (eight deep typed tabled : Bool) (dl dstStride sl srcOff srcStride w h : ℕ) (mx my dx dy : ℤ) → List Test
scaled_tests eight deep typed tabled dl dstStride sl srcOff srcStride w h mx my dx dy =
    size asks size_ok block_side w
    ∷ size asks size_ok block_side h
    ∷ stride asks stride_ok w dstStride
    ∷ stride asks stride_ok w srcStride
    ∷ number asks deep
    ∷ number asks start_ok mx
    ∷ number asks start_ok my
    ∷ number asks step_ok dx
    ∷ number asks step_ok dy
    ∷ number asks typed
    ∷ table asks tabled
    ∷ read asks reads_scaled eight sl srcOff srcStride w h mx my dx dy
    ∷ written asks holds dl dstStride w h
    ∷ []

-- the filter of column or row x of a block's side; the family goes by w and h, as in 8-tap
unfoldable pub scaled_axis : (subpel : List ℤ) (filterType start step : ℤ) (side x : ℕ) → Axis
scaled_axis subpel filterType start step side x = in_family subpel (family (up filterType) side) (sixteenth (position (up start) (up step) x))

-- the pixels around the one that column i of row j of the block is in, from m columns left and m rows above on
abbrev pub scaled_around : (m : ℕ) (src : List ℕ) (o s : ℕ) (mx my dx dy : ℤ) (i j : ℕ) → ℕ → ℕ → ℕ
scaled_around m src o s mx my dx dy i j = around m src o s (pixel_of (position (up mx) (up dx) i)) (pixel_of (position (up my) (up dy) j))

-- what the four answer, at the depth: the number r, and dst or tmp at the end
abbrev pub Put8ScaledAnswer : (deep : Bool) (depth : ℕ) (dst : List ℕ) (dstStride : ℕ) (src : List ℕ) (srcOff srcStride w h : ℕ) (mx my dx dy filterType : ℤ)
    (subpel : List ℤ) → (r : ℕ) (dst' : List ℕ) → Type 0
Put8ScaledAnswer deep depth dst dstStride src srcOff srcStride w h mx my dx dy filterType subpel r dst' =
    (r ≡ lowest (scaled_tests true deep (scaled_type_ok filterType) (subpel_ok (length subpel))
    (length dst) dstStride (length src) srcOff srcStride w h mx my dx dy))
    × (dst' ≡ or_same r (fill dst dstStride w h (λ i j. put_scaled (max_of depth) (bits_of depth)
    (scaled_axis subpel filterType mx dx w i) (scaled_axis subpel filterType my dy h j) (scaled_around 3 src srcOff srcStride mx my dx dy i j))) dst)

abbrev pub Prep8ScaledAnswer : (deep : Bool) (depth : ℕ) (tmp : List ℤ) (tmpStride : ℕ) (src : List ℕ) (srcOff srcStride w h : ℕ) (mx my dx dy filterType : ℤ)
    (subpel : List ℤ) → (r : ℕ) (tmp' : List ℤ) → Type 0
Prep8ScaledAnswer deep depth tmp tmpStride src srcOff srcStride w h mx my dx dy filterType subpel r tmp' =
    (r ≡ lowest (scaled_tests true deep (scaled_type_ok filterType) (subpel_ok (length subpel))
    (length tmp) tmpStride (length src) srcOff srcStride w h mx my dx dy))
    × (tmp' ≡ or_same r (fill tmp tmpStride w h (λ i j. prep_scaled (bits_of depth) (bias_of depth)
    (scaled_axis subpel filterType mx dx w i) (scaled_axis subpel filterType my dy h j) (scaled_around 3 src srcOff srcStride mx my dx dy i j))) tmp)

abbrev pub PutBilinScaledAnswer : (deep : Bool) (depth : ℕ) (dst : List ℕ) (dstStride : ℕ) (src : List ℕ) (srcOff srcStride w h : ℕ) (mx my dx dy : ℤ)
    → (r : ℕ) (dst' : List ℕ) → Type 0
PutBilinScaledAnswer deep depth dst dstStride src srcOff srcStride w h mx my dx dy r dst' =
    (r ≡ lowest (scaled_tests false deep true true (length dst) dstStride (length src) srcOff srcStride w h mx my dx dy))
    × (dst' ≡ or_same r (fill dst dstStride w h (λ i j. put_bilin_scaled (max_of depth) (bits_of depth)
    (sixteenth (position (up mx) (up dx) i)) (sixteenth (position (up my) (up dy) j)) (scaled_around 0 src srcOff srcStride mx my dx dy i j))) dst)

abbrev pub PrepBilinScaledAnswer : (deep : Bool) (depth : ℕ) (tmp : List ℤ) (tmpStride : ℕ) (src : List ℕ) (srcOff srcStride w h : ℕ) (mx my dx dy : ℤ)
    → (r : ℕ) (tmp' : List ℤ) → Type 0
PrepBilinScaledAnswer deep depth tmp tmpStride src srcOff srcStride w h mx my dx dy r tmp' =
    (r ≡ lowest (scaled_tests false deep true true (length tmp) tmpStride (length src) srcOff srcStride w h mx my dx dy))
    × (tmp' ≡ or_same r (fill tmp tmpStride w h (λ i j. prep_bilin_scaled (bits_of depth) (bias_of depth)
    (sixteenth (position (up mx) (up dx) i)) (sixteenth (position (up my) (up dy) j)) (scaled_around 0 src srcOff srcStride mx my dx dy i j))) tmp)
