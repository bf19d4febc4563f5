-- Demand 3: a block cut into rectangles, each fetched and predicted by an order of its own. Assumes nothing.
use Rattle.std.specs.Prelude.{ℕ, ◌-◌, ℤ, pos, ◌+ℤ◌, length, Bool, true, false, List, [], ◌∷◌}
use Rattle.rows.specs.Places.{lent_from}
use Rattle.rows.specs.Cut.{Rect, begins}
use Rattle.blocks.specs.Order.{Setting, order_number, order_dst, order_tmp}
use Rattle.blocks.specs.declared.order.Order.{Order}
use Rattle.blocks.specs.declared.order.Kind.{Kind}
use Rattle.blocks.specs.declared.order.Kind.TheVariants.{Copy, Subpel, Bilinear, Warp}

-- "Take a copied, 8-tap or bilinear block"
unfoldable pub unwarped : Kind → Bool
unwarped Copy = true
unwarped (Subpel m) = true
unwarped (Bilinear m) = true
unwarped (Warp s) = false

-- the order of a rectangle of the block that o orders
abbrev pub cut_order : Order → Rect → Order
cut_order o r = record { x = o.x +ℤ pos r.x; y = o.y +ℤ pos r.y; w = r.w; h = r.h; kind = o.kind }

-- what stays from call to call is the setting s: "depth, tables, fraction and filter type stay the same", and so do frame and plane; fraction and filter
-- type are in the order's kind. sl is the length of scratch, which a call keeps; dl is the length of dst or tmp

-- the number of an order's call
abbrev pub call_number : Setting → Order → (sl dl stride : ℕ) → ℕ
call_number s o sl dl stride = order_number s true o sl dl stride

-- what the call leaves in dst, and in tmp
abbrev pub call_dst : Setting → Order → (sl stride : ℕ) → List ℕ → List ℕ
call_dst s o sl stride dst = order_dst (call_number s o sl (length dst) stride) s o stride dst

abbrev pub call_tmp : Setting → Order → (sl stride : ℕ) → List ℤ → List ℤ
call_tmp s o sl stride tmp = order_tmp (call_number s o sl (length tmp) stride) s o stride tmp

-- "Fetch and predict each by itself, in any order": one call after the other as the rectangles stand in the list. "Run as put, the rectangles share one
-- destination and its stride": each call is lent dst from its rectangle's first pixel on
unfoldable pub put_rects : Setting → Order → (sl stride : ℕ) → List Rect → List ℕ → List ℕ
put_rects s o sl stride [] dst = dst
put_rects s o sl stride (r ∷ rs) dst = put_rects s o sl stride rs (lent_from (begins stride r) (call_dst s (cut_order o r) sl stride) dst)

-- "If no call is refused": of the rectangle r, into a dst of dl places
abbrev pub put_number : Setting → Order → (sl stride dl : ℕ) → Rect → ℕ
put_number s o sl stride dl r = call_number s (cut_order o r) sl (dl - begins stride r) stride
