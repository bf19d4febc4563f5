-- w_mask's answer: one for each call, and accepted calls. Assumes nothing.
use Rattle.blocks.proofs.Usual.{true, Bool, false, List, ◌≡◌, refl, ℕ, ◌*◌, pos, ℤ, bits_of, max_of, bias_of, up, fill, lowest, holds, stride_ok, size_ok}
use Rattle.blocks.proofs.Usual.{need, or_same, unique_of}
use Rattle.rows.specs.Combine.{masked, both}
use Rattle.rows.specs.WMask.{mask_at}
use Rattle.blocks.specs.words.Depth.{depth_ok}
use Rattle.blocks.specs.WMask.{even_ok, mask_side, flags_ok, sign_ok, w_mask_tests, weights, WMaskAnswer}

pub w-mask_unique : (deep : Bool) (depth : ℕ) (dst : List ℕ) (ds : ℕ) (tmp1 tmp2 : List ℤ) (w h : ℕ) (mask : List ℕ) (ms : ℕ) (sign : ℤ) (ssHor ssVer : Bool)
    (r r' : ℕ) (d d' m m' : List ℕ) → WMaskAnswer deep depth dst ds tmp1 tmp2 w h mask ms sign ssHor ssVer r d m
    → WMaskAnswer deep depth dst ds tmp1 tmp2 w h mask ms sign ssHor ssVer r' d' m' → (r ≡ r') × (d ≡ d') × (m ≡ m')
w-mask_unique deep depth dst ds tmp1 tmp2 w h mask ms sign ssHor ssVer r r' d d' m m' a b =
    let W = weights depth w tmp1 tmp2 in
    let f = fill dst ds w h (λ i j. both (masked (max_of depth) (bits_of depth) (bias_of depth) (W i j)) tmp1 tmp2 (j * w) i) in
    let g = fill mask ms (mask_side ssHor w) (mask_side ssVer h) (mask_at (up sign) ssHor ssVer W) in
    let p = unique_of _ (λ (n : ℕ). or_same n f dst) (a.0, a.1) (b.0, b.1) in
    let q = unique_of _ (λ (n : ℕ). or_same n g mask) (a.0, a.2) (b.0, b.2) in
    (p.0, p.1, q.1)

-- two rows of four: each weight kept, pairs and fours are accepted in masks that hold just that; one place less in the mask is 6
each_held : lowest (w_mask_tests true 8 4 8 8 4 2 8 4 (pos 1) false false) ≡ 0
unfolding need size_ok stride_ok holds even_ok flags_ok sign_ok
each_held = refl

pairs_held : lowest (w_mask_tests true 8 4 8 8 4 2 4 2 (pos 1) true false) ≡ 0
unfolding need size_ok stride_ok holds even_ok flags_ok sign_ok
pairs_held = refl

fours_held : lowest (w_mask_tests (depth_ok (pos 10)) 8 4 8 8 4 2 2 2 (pos 0) true true) ≡ 0
unfolding need size_ok stride_ok holds even_ok flags_ok sign_ok depth_ok
fours_held = refl

fours_short : lowest (w_mask_tests (depth_ok (pos 10)) 8 4 8 8 4 2 1 2 (pos 0) true true) ≡ 6
unfolding need size_ok stride_ok holds even_ok flags_ok sign_ok depth_ok
fours_short = refl

-- ss_ver alone is 3, with an odd h 1
ver_alone : lowest (w_mask_tests true 8 4 8 8 4 2 8 4 (pos 0) false true) ≡ 3
unfolding need size_ok stride_ok holds even_ok flags_ok sign_ok
ver_alone = refl

ver_odd : lowest (w_mask_tests true 12 4 12 12 4 3 12 4 (pos 0) false true) ≡ 1
unfolding need size_ok stride_ok holds even_ok flags_ok sign_ok
ver_odd = refl
