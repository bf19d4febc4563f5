use Rattle.blocks.proofs.Usual.{◌++◌, refl, ◌≤◌, ◌*◌, ◌+◌, ◌<◌, ◌/◌, arith, length, drop, filled_none, row_in}
use Rattle.blocks.proofs.Usual.{filled_more, Turn, turn}
use Rattle.rows.specs.WMask.{mask_at}
use Rattle.blocks.proofs.Laws.WMask.Weighed.{weigh, Front, front, fours}
use Rattle.blocks.proofs.w_mask.keep_fours.Goals as goal
use Rattle.blocks.proofs.w_mask.keep_fours.Goals.{In-loop-y, After-weight_row, After-weight_row-in-loop-y}

-- in a turn, rows 2y and 2y + 1 are within both intermediates, and row y within the mask
below : (c : In-loop-y) → 2 * c.loop-y.y + 1 < c.args.h
below c = omega (arith, c.loop-y-test.true)

row : (c : In-loop-y) → let a = c.args in let y = c.loop-y.y in
    Turn a.mask_stride (a.w / 2) y c.loop-y.mask
    × (2 * y * a.w + a.w ≤ length a.tmp1.now) × (2 * y * a.w + a.w ≤ length a.tmp2.now)
    × ((2 * y + 1) * a.w + a.w ≤ length a.tmp1.now) × ((2 * y + 1) * a.w + a.w ≤ length a.tmp2.now)
row c =
    let p = c.requires.0 in let y = c.loop-y.y in let lt = below c in (
      turn 0 c.loop-y.invariant.0 p.mask c.loop-y-test.true,
      row_in (2 * y) p.tmp1 (omega arith),
      row_in (2 * y) p.tmp2 (omega arith),
      row_in (2 * y + 1) p.tmp1 lt,
      row_in (2 * y + 1) p.tmp2 lt,
    )

-- the weights of each row, as they stand in its array
first : (c : After-weight_row) → let a = c.args in
    Front a.w (λ i. weigh a.depth a.bits a.tmp1.now a.tmp2.now a.w i (2 * c.loop-y.y))
    (c.weight_row.new.m ++ drop a.w c.loop-y.m)
first c = front _ _ _ _ c.requires.0.block.w64 c.loop-y.invariant.1 c.weight_row.ensures

second : (c : After-weight_row-in-loop-y) → let a = c.args in
    Front a.w (λ i. weigh a.depth a.bits a.tmp1.now a.tmp2.now a.w i (2 * c.loop-y.y + 1))
    (c.weight_row-in-loop-y.new.m ++ drop a.w c.loop-y.n)
second c = front _ _ _ _ c.requires.0.block.w64 c.loop-y.invariant.2 c.weight_row-in-loop-y.ensures

pub loop-y-init : goal.loop-y-init
loop-y-init c = (filled_none 0 _ _ _ _ _ (omega (arith, c.requires)), refl, refl)

pub loop-y-preserved : goal.loop-y-preserved
unfolding mask_at
loop-y-preserved c =
    let p = c.requires.0 in let at = goal.at.loop-y-preserved c in
    let m = first at.After-weight_row in let n = second at.After-weight_row-in-loop-y in (
      filled_more 0 _ c.loop-y.invariant.0 p.mw1 p.mask c.loop-y-test.true
          (fours _ _ _ m n (omega (arith, (row at.In-loop-y).0)) c.four_row.ensures),
      m.len,
      n.len,
    )
