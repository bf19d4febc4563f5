-- `emu_edge`: its answer is the only one, and a call is accepted. Assumes nothing.
use Rattle.blocks.proofs.Usual.{List, ◌≡◌, refl, ℕ, pos, ℤ, negsuc, length, fill, lowest, holds, stride_ok, size_ok, need, or_same, unique_of}
use Rattle.rows.specs.Edge.{edge}
use Rattle.blocks.specs.Edge.{place_ok, edge_tests, EdgeAnswer}

-- there is one
edge_unique : (bw bh iw ih : ℕ) (x y : ℤ) (dst : List ℕ) (ds : ℕ) (plane : List ℕ) (ps : ℕ) (r r' : ℕ) (d d' : List ℕ)
    → EdgeAnswer bw bh iw ih x y dst ds plane ps r d → EdgeAnswer bw bh iw ih x y dst ds plane ps r' d' → (r ≡ r') × (d ≡ d')
edge_unique bw bh iw ih x y dst ds plane ps r r' d d' =
    unique_of (lowest (edge_tests bw bh iw ih x y (length dst) ds (length plane) ps)) (λ n. or_same n (fill dst ds bw bh (edge plane ps iw ih x y)) dst)

-- a block of 8 x 8 far outside a plane of 4 x 3 is accepted
edge_accepted : lowest (edge_tests 8 8 4 3 (negsuc 99) (pos 50) 64 8 12 4) ≡ 0
unfolding need size_ok stride_ok place_ok holds
edge_accepted = refl
