-- blend's and morph's answers: one for each call, and an accepted call of each. Assumes nothing.
use Rattle.blocks.proofs.Usual.{Bool, List, [], ◌∷◌, ◌≡◌, refl, ap, ℕ, pos, ℤ, negsuc, max_of, pixel, fill, lowest, holds, stride_ok, size_ok, need, or_same}
use Rattle.blocks.proofs.Usual.{unique_of}
use Rattle.rows.specs.Combine.{blend, morph}
use Rattle.rows.specs.Warp.{every}
use Rattle.blocks.specs.words.Depth.{depth_ok}
use Rattle.blocks.specs.Blend.{first_above, none_above, blend_tests, spot_of, BlendAnswer, morph_tests, MorphAnswer}
use Rattle.blocks.specs.declared.blend.Spot.{Spot}

pub blend_unique : (dst : List ℕ) (ds : ℕ) (tmp : List ℕ) (w h : ℕ) (mask : List ℕ) (r r' : ℕ) (d d' : List ℕ) (row col row' col' : ℕ)
    → BlendAnswer dst ds tmp w h mask r d row col → BlendAnswer dst ds tmp w h mask r' d' row' col' → (r ≡ r') × (d ≡ d') × (row ≡ row') × (col ≡ col')
blend_unique dst ds tmp w h mask r r' d d' row col row' col' a b =
    let f = fill dst ds w h (λ i j. blend (pixel mask w i j) (pixel dst ds i j) (pixel tmp w i j)) in
    let p = unique_of _ (λ (n : ℕ). or_same n f dst) (a.0, a.1) (b.0, b.1) in
    let q = unique_of _ (λ (n : ℕ). spot_of n w h mask) {d = record { row = row; col = col }} {d' = record { row = row'; col = col' }} (a.0, a.2) (b.0, b.2) in
    (p.0, p.1, ap (λ (s : Spot). s.row) q.1, ap (λ (s : Spot). s.col) q.1)

pub morph_unique : (deep : Bool) (depth : ℕ) (dst : List ℕ) (ds : ℕ) (alpha beta : ℤ) (w h : ℕ) (r r' : ℕ) (d d' : List ℕ)
    → MorphAnswer deep depth dst ds alpha beta w h r d → MorphAnswer deep depth dst ds alpha beta w h r' d' → (r ≡ r') × (d ≡ d')
morph_unique deep depth dst ds alpha beta w h r r' d d' =
    unique_of _ (λ (n : ℕ). or_same n (fill dst ds w h (λ i j. morph (max_of depth) alpha beta (pixel dst ds i j))) dst)

-- a block of two rows of one pixel, at a stride of three; of the mask's two values, the second may be 64, and at 65 is refused at row 1, column 0
blend_64 : lowest (blend_tests 4 3 2 1 2 (0 ∷ 64 ∷ [])) ≡ 0
unfolding need size_ok stride_ok holds none_above every
blend_64 = refl

blend_65 : lowest (blend_tests 4 3 2 1 2 (0 ∷ 65 ∷ [])) ≡ 7
unfolding need size_ok stride_ok holds none_above every
blend_65 = refl

blend_65_at : spot_of 7 1 2 (0 ∷ 65 ∷ []) ≡ record { row = 1; col = 0 }
unfolding spot_of first_above
blend_65_at = refl

-- alpha and beta at their limits, at depth 12
morph_far : lowest (morph_tests (depth_ok (pos 12)) 4 3 (negsuc 16383) (pos 4194304) 1 2) ≡ 0
unfolding need size_ok stride_ok holds depth_ok
morph_far = refl

morph_farther : lowest (morph_tests (depth_ok (pos 12)) 4 3 (negsuc 16384) (pos 4194304) 1 2) ≡ 3
unfolding need size_ok stride_ok holds depth_ok
morph_farther = refl
