-- Demand 3 of a block that is cut into rectangles, over the definitions that the orders' contracts name.
-- "Fetch and predict each by itself, in any order": `put_rects` makes a call for each rectangle, one after the other as they stand in any list.
-- "if depth, tables, fraction and filter type stay the same": they are fields of the one `Setting`, and of the block's kind, which is each rectangle's.
-- Depth and the outcome of its test are any there, so bytes and 16-bit pixels have the same laws. Assumes nothing.
use Rattle.blocks.proofs.Usual.{true, List, inr, ◌≡◌, ◌∙◌, refl, sym, ap, ℕ, ◌≤◌, ◌*◌, ◌+◌, ◌-◌, ◌<◌, ◌/◌, ◌%◌, add-mul, arith, pos, ℤ, length, get_or, at}
use Rattle.blocks.proofs.Usual.{pixel, fill, Setting, fill_in_lem, length-fill, row_fits}
use mathlib.Core.Logic.{◌⊎◌}
use Rattle.rows.specs.Cut.{Rect, Inside, Each, Cut, SameSide, begins}
use Rattle.rows.proofs.Laws.Cut.Cut.{each_map, each_both, in_one, beside_fill}
use Rattle.blocks.specs.Order.{endless_put, endless_prep}
use Rattle.blocks.specs.Cut.{unwarped, cut_order, call_number, call_dst, call_tmp, put_rects, put_number}
use Rattle.blocks.specs.declared.order.Order.{Order}
use Rattle.blocks.proofs.Laws.Cut.Calls.{prep-moved, call_met, call_dst_lem, call_tmp_lem, call_tmp_at, begun, puts, drawn_block}

-- what is asked of the block and of the rectangles
pub record CutBlock (o : Order) (rs : List Rect) : Type 0 where
  -- "Take a copied, 8-tap or bilinear block"
  pub kind : unwarped o.kind ≡ true
  -- "Cut the block into rectangles that cover each pixel once"
  pub cut : Cut o.w o.h rs
  -- "each rectangle is on the same side of four pixels as the block in width and in height"
  pub sides : Each (SameSide o.w o.h) rs

-- and of the calls, "Run as put", into a destination of dl places
pub record PutCut (s : Setting) (o : Order) (sl stride dl : ℕ) (rs : List Rect) : Type 0 where
  pub block : CutBlock o rs
  -- "the rectangles share one destination and its stride"; "A stride is at least the row it carries", which is the block's
  pub carries : o.w ≤ stride
  -- "If no call is refused"
  pub accepted : Each (λ r. put_number s o sl stride dl r ≡ 0) rs

module _ (s : Setting) (o : Order) (sl stride : ℕ) (rs : List Rect) (dst : List ℕ) (p : PutCut s o sl stride (length dst) rs) where
  -- "the result is the block predicted on that endless plane, and no destination pixel outside it changes"
  pub cut_put : put_rects s o sl stride rs dst ≡ fill dst stride o.w o.h (endless_put s o)
  cut_put =
      puts s o stride (length dst) sl rs dst refl p.accepted
      ∙ drawn_block s o stride rs dst p.block.kind p.block.cut p.block.sides p.carries
      (each_map _ _ rs (begun s o sl stride (length dst)) p.accepted)

  -- the destination has each pixel of the block
  pub pixel_in_lem : (i j : ℕ) → i < o.w → j < o.h → j * stride + i < length dst
  pixel_in_lem i j a b =
      in_one rs i j (p.block.cut.covers i j a b) p.accepted λ r e q.
      let m = call_met s (cut_order o r) sl stride (length dst - begins stride r) e in
      let k : r.y + (j - r.y) ≡ j = omega (arith, q) in
      omega (
        arith,
        q,
        row_fits (length dst - begins stride r) stride r.w r.h (j - r.y) m.1.fits (omega (arith, q)),
        add-mul r.y (j - r.y) stride,
        ap (λ (n : ℕ). n * stride) k,
      )

  -- and each is as the endless plane gives it
  pub pixel-put : (i j : ℕ) → i < o.w → j < o.h → pixel (put_rects s o sl stride rs dst) stride i j ≡ endless_put s o i j
  pixel-put i j a b =
      ap (λ (d : List ℕ). pixel d stride i j) cut_put ∙ fill_in_lem 0 stride dst o.w o.h (endless_put s o) i j p.carries a b (pixel_in_lem i j a b)

  -- each other place is as it was: place k stands at column k % stride of row k / stride
  pub outside_same : (k : ℕ) → k < length dst → (o.w ≤ k % stride) ⊎ (o.h ≤ k / stride) → get_or (put_rects s o sl stride rs dst) k 0 ≡ get_or dst k 0
  outside_same k b out = ap (λ (d : List ℕ). get_or d k 0) cut_put ∙ beside_fill 0 dst stride o.w o.h (endless_put s o) k b out

  pub length_same : length (put_rects s o sl stride rs dst) ≡ length dst
  length_same = ap length cut_put ∙ length-fill dst stride o.w o.h (endless_put s o)

  -- where the block's own call isn't refused, it leaves the same
  pub put-at_once : call_number s o sl (length dst) stride ≡ 0 → put_rects s o sl stride rs dst ≡ call_dst s o sl stride dst
  put-at_once e = cut_put ∙ sym (call_dst_lem s o sl stride dst e)

-- ---- "run as prep, each has its own intermediate without gaps, and the law holds place by place"

-- "If no call is refused": the number of the rectangle r's call, whose intermediate has the rectangle's width as stride
abbrev pub prep_number : Setting → Order → (sl : ℕ) → Rect → List ℤ → ℕ
prep_number s o sl r tmp = call_number s (cut_order o r) sl (length tmp) r.w

-- what the call leaves at column i of row j is what the picture f of the block has there
abbrev pub PlaceByPlace : Setting → Order → (sl : ℕ) → (ℕ → ℕ → ℤ) → Rect → Type 0
PlaceByPlace s o sl f r =
    (tmp : List ℤ) → prep_number s o sl r tmp ≡ 0 → (i j : ℕ) → i < r.w → j < r.h
    → at (call_tmp s (cut_order o r) sl r.w tmp) (j * r.w + i) ≡ f (r.x + i) (r.y + j)

module _ (s : Setting) (o : Order) (sl : ℕ) (rs : List Rect) (p : CutBlock o rs) where
  -- "the result is the block predicted on that endless plane"
  pub cut_prep : Each (PlaceByPlace s o sl (endless_prep s o)) rs
  cut_prep =
      each_map _ _ rs (λ r side tmp e i j a b.
      call_tmp_at s (cut_order o r) sl tmp e i j a b ∙ prep-moved s.depth s.tables o p.kind _ r side i j) p.sides

  -- each other place of an intermediate is as it was, and so is its length
  pub prep_outside : (r : Rect) (tmp : List ℤ) → prep_number s o sl r tmp ≡ 0 → (k : ℕ) → k < length tmp → r.h ≤ k / r.w
      → at (call_tmp s (cut_order o r) sl r.w tmp) k ≡ at tmp k
  prep_outside r tmp e k b out =
      ap (λ (d : List ℤ). at d k) (call_tmp_lem s (cut_order o r) sl r.w tmp e)
      ∙ beside_fill (pos 0) tmp r.w r.w r.h (endless_prep s (cut_order o r)) k b (inr out)

  pub prep-length : (r : Rect) (tmp : List ℤ) → prep_number s o sl r tmp ≡ 0 → length (call_tmp s (cut_order o r) sl r.w tmp) ≡ length tmp
  prep-length r tmp e =
      ap length (call_tmp_lem s (cut_order o r) sl r.w tmp e) ∙ length-fill tmp r.w r.w r.h (endless_prep s (cut_order o r))

  -- where the block's own call isn't refused, its intermediate has the same
  pub prep-at_once : (whole : List ℤ) → call_number s o sl (length whole) o.w ≡ 0
      → Each (PlaceByPlace s o sl (λ i j. at (call_tmp s o sl o.w whole) (j * o.w + i))) rs
  prep-at_once whole e =
      each_both _ (Inside o.w o.h) _ rs (λ r law inside tmp n i j a b.
      law tmp n i j a b ∙ sym (call_tmp_at s o sl whole e (r.x + i) (r.y + j) (omega (arith, inside)) (omega (arith, inside)))) cut_prep p.cut.inside
