use mathlib.Core.Path.{◌≡◌, refl, sym, ◌∙◌}
use Prim.Native.Nat.{◌+◌, ◌-◌, ◌*◌, ◌≤◌}
use native.Mathlib.Nat.{mul-le-mul_right}
use native.Mathlib.Omega.{arith}
use borrow.Author.Rules.{rules}
use lib.IntN.{pos, ◌+ℤ◌}
use lib.ListN.{length, take, drop, length-take, length-drop}
use mir.Syntax.{w32, w64}
use Rattle.rows.specs.Cut.{Rect, Inside, SameSide}
use Rattle.rows.proofs.Laws.Numbers.Signed.{back, fit}
use Rattle.blocks.proofs.Laws.Calls.Refuse.{holds_met}
use Rattle.blocks.proofs.Laws.Calls.Told.{passed}
use Rattle.cut.specs.Answer as answer
use Rattle.cut.proofs.Run.{same_side, upto_none, upto_more, piece_some}
use Rattle.cut.proofs.Run.{tiled_none, tiled_one, tiled_beside, tiled_below, one_call, tile-number, tiles_fill}
use Rattle.cut.proofs.tiles.predict_in_tiles.Goals as goal
use Rattle.cut.proofs.tiles.predict_in_tiles.Goals.{In-loop-left, After-hv_order_put-number}

-- a tile begins within dst
begun : (c : In-loop-left) → c.loop-top.top * c.args.dst_stride + c.loop-left.left ≤ length c.loop-left.dst
begun c =
    let a = c.args in
    let held = holds_met (length a.dst.now) a.dst_stride a.w a.h (sym c.holds_rows.ensures ∙ c.if-not-holds_rows.false) in
    omega (arith, held, mul-le-mul_right {m = c.loop-top.top} {n = a.h - 1} a.dst_stride (omega arith))

-- a tile's rectangle, which is one of a cut
abbrev rect : After-hv_order_put-number → Rect
rect c = record { x = c.loop-left.left; y = c.loop-top.top; w = c.piece-columns.result; h = c.piece-rows.result }

inside : (c : After-hv_order_put-number) → let a = c.args in Inside a.w a.h (rect c) × SameSide a.w a.h (rect c)
inside c =
    let a = c.args in
    let across = c.piece-columns.ensures in let down = c.piece-rows.ensures in (
      record { right = omega (arith, across); low = omega (arith, down) },
      record {
        width = same_side a.w c.piece-columns.result across.enough (omega (arith, across));
        height = same_side a.h c.piece-rows.result down.enough (omega (arith, down));
      },
    )

-- where the call stands, on the plane
place : (c : After-hv_order_put-number) → let a = c.args in
    (passed w64 c.moved.result ≡ passed w32 a.x +ℤ pos (rect c).x)
    × (passed w64 c.moved-in-loop-left.result ≡ passed w32 a.y +ℤ pos (rect c).y)
place c =
    (back (fit w64 c.moved.type_inv) ∙ c.moved.ensures, back (fit w64 c.moved-in-loop-left.type_inv) ∙ c.moved-in-loop-left.ensures)

pub loop-top-init : goal.loop-top-init
loop-top-init c = record { cut = upto_none _; tiled = tiled_none _ _ _ _ _ _ _ _ (λ i j q. omega (arith, q)) }

pub loop-left-init : goal.loop-left-init
loop-left-init c = record { cut = upto_none _; tiled = tiled_none _ _ _ _ _ _ _ _ (λ i j q. omega (arith, q)) }

pub overflow_mul-at : goal.overflow_mul-at
overflow_mul-at c = let b = begun (goal.at.overflow_mul-at c).In-loop-left in search rules

pub overflow_add-at : goal.overflow_add-at
overflow_add-at c = let b = begun (goal.at.overflow_add-at c).In-loop-left in search rules

pub offset_bounds-dst-at : goal.offset_bounds-dst-at
offset_bounds-dst-at c = let b = begun (goal.at.offset_bounds-dst-at c).In-loop-left in search rules

pub slice_bounds-hv_order_put-count : goal.slice_bounds-hv_order_put-count
slice_bounds-hv_order_put-count c = begun (goal.at.slice_bounds-hv_order_put-count c).In-loop-left

pub slice_bounds-hv_order_put-start : goal.slice_bounds-hv_order_put-start
slice_bounds-hv_order_put-start c = begun (goal.at.slice_bounds-hv_order_put-start c).In-loop-left

pub returns-then-number-ne0 : goal.returns-then-number-ne0
returns-then-number-ne0 c =
    let s = (goal.at.returns-then-number-ne0 c).After-hv_order_put-number in
    let l = c.loop-left in let f = c.ranges in let a = c.args in let call = c.hv_order_put-number in
    let begin = c.loop-top.top * a.dst_stride + l.left in
    let part = take (length l.dst - begin) (drop begin l.dst) in
    let lent : length part ≡ length a.dst.now - begin = simp (length-take, length-drop) (omega arith) in
    let number = tile-number (passed w32 a.depth) a.luma_w a.luma_h a.ss_hor a.ss_ver a.plane_no a.plane.now a.plane_stride a.kind
    (passed w32 a.mx) (passed w32 a.my) (passed w32 a.filter_type) (pos 0) (pos 0) (pos 0) (pos 0) a.subpel.now a.ext.now a.warp.now
    (passed w32 a.x) (passed w32 a.y) a.w a.h a.dst_stride c.if-kind-gt2.false c.if-dst_stride-row.false
    (rect s) _ _ l.scratch part call.new.scratch call.new.dst
    (length a.scratch.now) (length a.dst.now) call.result (place s).0 (place s).1 (omega arith) lent call.ensures in
    record {
      done = λ z. absurd (c.if-number-ne0.true z);
      refused = λ n.
          answer.tile (rect s) (inside s).0 (inside s).1
          (rw (back f.depth, back f.mx, back f.my, back f.filter_type, back f.x, back f.y) at number);
    }

pub loop-left-smaller : goal.loop-left-smaller
loop-left-smaller c = omega (arith, piece_some c.piece-columns.ensures, c.loop-left-test.true)

pub loop-left-preserved : goal.loop-left-preserved
loop-left-preserved c =
    let s = (goal.at.loop-left-preserved c).After-hv_order_put-number in
    let l = c.loop-left in let call = c.hv_order_put-number in
    let r = rect s in let begin = r.y * c.args.dst_stride + r.x in
    record {
      cut = upto_more l.invariant.cut c.loop-left-test.true c.piece-columns.ensures;
      tiled = tiled_beside _ _ _ _ _ _ r.y r.x r.w r.h _ _ _ l.invariant.tiled
          (tiled_one _ _ _ _ _ _ r _ _ (inside s).0 (inside s).1
          (one_call _ _ _ _ _ _ r call.result (length l.dst - begin) l.dst l.scratch call.new.scratch call.new.dst
          (place s).0 (place s).1 c.if-number-ne0.false call.ensures));
    }

pub loop-top-smaller : goal.loop-top-smaller
loop-top-smaller c = omega (arith, piece_some c.piece-rows.ensures, c.loop-top-test.true)

pub loop-top-preserved : goal.loop-top-preserved
loop-top-preserved c =
    record {
      cut = upto_more c.loop-top.invariant.cut c.loop-top-test.true c.piece-rows.ensures;
      tiled = tiled_below _ _ _ _ _ _ c.loop-top.top c.loop-left.left c.piece-rows.result _ _ _ (omega arith)
          c.loop-top.invariant.tiled c.loop-left.invariant.tiled;
    }

pub returns : goal.returns
returns c =
    let f = c.ranges in
    let t = rw (back f.depth, back f.mx, back f.my, back f.filter_type, back f.x, back f.y) at c.loop-top.invariant.tiled in
    record {
      done = λ z.
          tiles_fill _ _ _ _ _ _ _ _ _ _ _ _ _ _ _ _ _ _ _ _ _ _ _ _ c.if-kind-gt2.false c.if-dst_stride-row.false c.loop-top.top _ _ (omega arith) t;
      refused = λ n. absurd (n refl);
    }
