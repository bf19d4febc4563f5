-- `sad_nxn` and `sad_refine_mv`: the tests of their calls. l0 and l1 are the lengths of p0 and p1; deep is the outcome of the depth's test, true for bytes.
-- Assumes nothing.
use Rattle.std.specs.Prelude.{ℕ, ◌+◌, Bool, List, [], ◌∷◌, ◌≡◌, ℤ, pos, length}
use Rattle.rows.specs.Places.{pixel}
use Rattle.rows.specs.Search.{centre, sad, refine}
use Rattle.blocks.specs.Refuse.{Test, size, stride, number, read, ◌asks◌, lowest, or_same, size_ok, block_side, stride_ok, holds}

-- m more columns and rows than the block are held: none for `sad_nxn`, 8 for `sad_refine_mv`; "tested whole, also where sad_nxn skips rows"
abbrev pub sads_tests : (m : ℕ) (deep : Bool) (l0 p0Stride l1 p1Stride w h : ℕ) → List Test
sads_tests m deep l0 p0Stride l1 p1Stride w h =
    size asks size_ok block_side w
    ∷ size asks size_ok block_side h
    ∷ stride asks stride_ok (w + m) p0Stride
    ∷ stride asks stride_ok (w + m) p1Stride
    ∷ number asks deep
    ∷ read asks holds l0 p0Stride (w + m) (h + m)
    ∷ read asks holds l1 p1Stride (w + m) (h + m)
    ∷ []

abbrev pub sad_tests : (deep : Bool) (l0 p0Stride l1 p1Stride w h : ℕ) → List Test
sad_tests deep l0 p0Stride l1 p1Stride w h = sads_tests 0 deep l0 p0Stride l1 p1Stride w h

-- "two buffers that each hold (w+8) x (h+8) (stride at least w+8)"
abbrev pub refine_tests : (deep : Bool) (l0 p0Stride l1 p1Stride w h : ℕ) → List Test
refine_tests deep l0 p0Stride l1 p1Stride w h = sads_tests 8 deep l0 p0Stride l1 p1Stride w h

-- what `sad_nxn` answers, at the depth: the number r and the sum; zero where refused
abbrev pub SadAnswer : (deep : Bool) (depth : ℕ) (p0 : List ℕ) (p0Stride : ℕ) (p1 : List ℕ) (p1Stride w h : ℕ) → (r : ℕ) (total : ℤ) → Type 0
SadAnswer deep depth p0 p0Stride p1 p1Stride w h r total =
    (r ≡ lowest (sad_tests deep (length p0) p0Stride (length p1) p1Stride w h))
    × (total ≡ or_same r (pos (sad depth (pixel p0 p0Stride) (pixel p1 p1Stride) w h)) (pos 0))

-- what `sad_refine_mv` answers: the number r and the offset; zeros where refused
abbrev pub RefineAnswer : (deep : Bool) (depth : ℕ) (p0 : List ℕ) (p0Stride : ℕ) (p1 : List ℕ) (p1Stride w h : ℕ) (isImplicit : Bool)
    → (r : ℕ) (dx dy : ℤ) → Type 0
RefineAnswer deep depth p0 p0Stride p1 p1Stride w h isImplicit r dx dy =
    (r ≡ lowest (refine_tests deep (length p0) p0Stride (length p1) p1Stride w h))
    × (record { dx = dx; dy = dy } ≡ or_same r (refine depth isImplicit (pixel p0 p0Stride) (pixel p1 p1Stride) w h) centre)
