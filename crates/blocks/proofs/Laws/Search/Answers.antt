-- `sad_nxn` and `sad_refine_mv`: an answer is the only one, and calls are accepted. Assumes nothing.
use Rattle.blocks.proofs.Usual.{true, Bool, List, ◌≡◌, refl, ap, ℕ, pos, ℤ, length, pixel, lowest, holds, stride_ok, size_ok, need, or_same, unique_of}
use Rattle.rows.specs.Search.{sad, Offset, centre, refine}
use Rattle.blocks.specs.Search.{sad_tests, refine_tests, SadAnswer, RefineAnswer}

-- there is one
sad_unique : (deep : Bool) (depth : ℕ) (p : List ℕ) (s : ℕ) (q : List ℕ) (s' w h : ℕ) (r r' : ℕ) (t t' : ℤ)
    → SadAnswer deep depth p s q s' w h r t → SadAnswer deep depth p s q s' w h r' t' → (r ≡ r') × (t ≡ t')
sad_unique deep depth p s q s' w h r r' t t' =
    unique_of (lowest (sad_tests deep (length p) s (length q) s' w h)) (λ n. or_same n (pos (sad depth (pixel p s) (pixel q s') w h)) (pos 0))

refine_unique : (deep : Bool) (depth : ℕ) (p : List ℕ) (s : ℕ) (q : List ℕ) (s' w h : ℕ) (isImplicit : Bool) (r r' : ℕ) (x x' y y' : ℤ)
    → RefineAnswer deep depth p s q s' w h isImplicit r x y → RefineAnswer deep depth p s q s' w h isImplicit r' x' y'
    → (r ≡ r') × (x ≡ x') × (y ≡ y')
refine_unique deep depth p s q s' w h isImplicit r r' x x' y y' a b =
    let o = refine depth isImplicit (pixel p s) (pixel q s') w h in
    let e = unique_of (lowest (refine_tests deep (length p) s (length q) s' w h)) (λ n. or_same n o centre) a b in
    (e.0, ap (λ (o : Offset). o.dx) e.1, ap (λ (o : Offset). o.dy) e.1)

-- a block of 8 x 8 in buffers that hold just that, and just the 16 x 16 around it, is accepted
sad_accepted : lowest (sad_tests true 64 8 64 8 8 8) ≡ 0
unfolding need size_ok stride_ok holds
sad_accepted = refl

refine_accepted : lowest (refine_tests true 256 16 256 16 8 8) ≡ 0
unfolding need size_ok stride_ok holds
refine_accepted = refl
