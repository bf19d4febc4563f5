-- The tests of each entry stand in order, by the ranks of their reasons, so the first that isn't met gives the lowest number that applies (Lowest). Assumes nothing.
use Rattle.blocks.proofs.Usual.{true, Bool, List, ◌≡◌, refl, ℕ, ℤ, Setting, LentPlane, window_tests, Asked}
use Rattle.blocks.specs.Refuse.{in_order}
use Rattle.blocks.specs.Copy.{put_tests, prep_tests}
use Rattle.blocks.specs.Combine.{combine_tests}
use Rattle.blocks.specs.Blend.{blend_tests, morph_tests}
use Rattle.blocks.specs.Edge.{edge_tests}
use Rattle.blocks.specs.Subpel.{subpel_tests}
use Rattle.blocks.specs.Bilinear.{bilin_tests}
use Rattle.blocks.specs.Scaled.{scaled_tests}
use Rattle.blocks.specs.WMask.{w_mask_tests}
use Rattle.blocks.specs.Search.{sads_tests}
use Rattle.blocks.specs.Warp.{warp_tests}
use Rattle.blocks.specs.Shear.{divisor_tests, shear_tests, affine_mv_tests}
use Rattle.blocks.specs.Window.{row_tests}
use Rattle.blocks.specs.Order.{order_tests}
use Rattle.blocks.specs.declared.order.Order.{Order}

pub put_order : (dl dstStride sl srcStride w h : ℕ) → in_order 1 (put_tests dl dstStride sl srcStride w h) ≡ true
unfolding in_order
put_order dl dstStride sl srcStride w h = refl

pub prep_order : (deep : Bool) (tl tmpStride sl srcStride w h : ℕ) → in_order 1 (prep_tests deep tl tmpStride sl srcStride w h) ≡ true
unfolding in_order
prep_order deep tl tmpStride sl srcStride w h = refl

pub combine_order : (dl dstStride l1 l2 w h : ℕ) (other mask : Bool) → in_order 1 (combine_tests dl dstStride l1 l2 w h other mask) ≡ true
unfolding in_order
combine_order dl dstStride l1 l2 w h other mask = refl

pub blend_order : (dl dstStride tl w h : ℕ) (mask : List ℕ) → in_order 1 (blend_tests dl dstStride tl w h mask) ≡ true
unfolding in_order
blend_order dl dstStride tl w h mask = refl

pub morph_order : (deep : Bool) (dl dstStride : ℕ) (alpha beta : ℤ) (w h : ℕ) → in_order 1 (morph_tests deep dl dstStride alpha beta w h) ≡ true
unfolding in_order
morph_order deep dl dstStride alpha beta w h = refl

pub edge_order : (bw bh iw ih : ℕ) (x y : ℤ) (dl dstStride pl planeStride : ℕ) → in_order 1 (edge_tests bw bh iw ih x y dl dstStride pl planeStride) ≡ true
unfolding in_order
edge_order bw bh iw ih x y dl dstStride pl planeStride = refl

pub subpel_order : (deep : Bool) (dl dstStride sl srcOff srcStride w h : ℕ) (mx my filterType : ℤ) (tl el : ℕ) → in_order 1 (subpel_tests deep dl dstStride sl srcOff srcStride w h mx my filterType tl el) ≡ true
unfolding in_order
subpel_order deep dl dstStride sl srcOff srcStride w h mx my filterType tl el = refl

pub bilin_order : (deep : Bool) (dl dstStride sl srcStride w h : ℕ) (mx my : ℤ) → in_order 1 (bilin_tests deep dl dstStride sl srcStride w h mx my) ≡ true
unfolding in_order
bilin_order deep dl dstStride sl srcStride w h mx my = refl

pub scaled_order : (eight deep typed tabled : Bool) (dl dstStride sl srcOff srcStride w h : ℕ) (mx my dx dy : ℤ)
    → in_order 1 (scaled_tests eight deep typed tabled dl dstStride sl srcOff srcStride w h mx my dx dy) ≡ true
unfolding in_order
scaled_order eight deep typed tabled dl dstStride sl srcOff srcStride w h mx my dx dy = refl

pub w-mask_order : (deep : Bool) (dl dstStride l1 l2 w h ml maskStride : ℕ) (sign : ℤ) (ssHor ssVer : Bool) → in_order 1 (w_mask_tests deep dl dstStride l1 l2 w h ml maskStride sign ssHor ssVer) ≡ true
unfolding in_order
w-mask_order deep dl dstStride l1 l2 w h ml maskStride sign ssHor ssVer = refl

pub sads_order : (m : ℕ) (deep : Bool) (l0 p0Stride l1 p1Stride w h : ℕ) → in_order 1 (sads_tests m deep l0 p0Stride l1 p1Stride w h) ≡ true
unfolding in_order
sads_order m deep l0 p0Stride l1 p1Stride w h = refl

pub warp_order : (deep : Bool) (dl dstStride sl srcStride srcOff : ℕ) (a b c d mx my : ℤ) (tl : ℕ) → in_order 1 (warp_tests deep dl dstStride sl srcStride srcOff a b c d mx my tl) ≡ true
unfolding in_order
warp_order deep dl dstStride sl srcStride srcOff a b c d mx my tl = refl

pub divisor_order : (d rl : ℕ) → in_order 1 (divisor_tests d rl) ≡ true
unfolding in_order
divisor_order d rl = refl

pub shear_order : (m : List ℤ) (rl : ℕ) → in_order 1 (shear_tests m rl) ≡ true
unfolding in_order
shear_order m rl = refl

pub affine_mv_order : (bw4 bh4 mvx mvy : ℤ) (m : List ℤ) (bx4 by4 : ℤ) → in_order 1 (affine_mv_tests bw4 bh4 mvx mvy m bx4 by4) ≡ true
unfolding in_order
affine_mv_order bw4 bh4 mvx mvy m bx4 by4 = refl

pub window_order : (p : LentPlane) (q : Asked) (sl : ℕ) → in_order 1 (window_tests p q sl) ≡ true
unfolding in_order
window_order p q sl = refl

pub row_order : (p : LentPlane) (row : ℤ) → in_order 1 (row_tests p row) ≡ true
unfolding in_order
row_order p row = refl

pub order_order : (s : Setting) (named : Bool) (o : Order) (sl dl dstStride : ℕ) → in_order 1 (order_tests s named o sl dl dstStride) ≡ true
unfolding in_order
order_order s named o sl dl dstStride = refl
