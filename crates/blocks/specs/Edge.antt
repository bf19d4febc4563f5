-- `emu_edge`: the tests of a call. dl and pl are the lengths of dst and of the plane. Assumes nothing.
use Rattle.std.specs.Prelude.{ℕ, ◌^◌, ℤ, Bool, List, [], ◌∷◌, ◌≡◌, length}
use Rattle.rows.specs.Places.{fill}
use Rattle.rows.specs.Edge.{edge}
use Rattle.rows.specs.Numbers.{is_within}
use Rattle.blocks.specs.Refuse.{Test, size, stride, number, read, written, ◌asks◌, lowest, or_same, size_ok, stride_ok, holds}

-- "positions within ±2^30"
unfoldable pub place_ok : ℤ → Bool
place_ok x = is_within (2 ^ 30) x

-- "bw and bh are 1 to 128, plane iw and ih 1 to 16,384"
abbrev pub edge_tests : (bw bh iw ih : ℕ) (x y : ℤ) (dl dstStride pl planeStride : ℕ) → List Test
edge_tests bw bh iw ih x y dl dstStride pl planeStride =
    size asks size_ok 128 bw
    ∷ size asks size_ok 128 bh
    ∷ size asks size_ok 16384 iw
    ∷ size asks size_ok 16384 ih
    ∷ stride asks stride_ok bw dstStride
    ∷ stride asks stride_ok iw planeStride
    ∷ number asks place_ok x
    ∷ number asks place_ok y
    ∷ read asks holds pl planeStride iw ih
    ∷ written asks holds dl dstStride bw bh
    ∷ []

-- what `emu_edge` answers: the number r, and dst at the end
abbrev pub EdgeAnswer : (bw bh iw ih : ℕ) (x y : ℤ) (dst : List ℕ) (dstStride : ℕ) (plane : List ℕ) (planeStride : ℕ) → (r : ℕ) (dst' : List ℕ) → Type 0
EdgeAnswer bw bh iw ih x y dst dstStride plane planeStride r dst' =
    (r ≡ lowest (edge_tests bw bh iw ih x y (length dst) dstStride (length plane) planeStride))
    × (dst' ≡ or_same r (fill dst dstStride bw bh (edge plane planeStride iw ih x y)) dst)
