use Rattle.blocks.proofs.Usual.{◌++◌, refl, ◌≤◌, ◌*◌, ◌+◌, ◌/◌, arith, length, drop, filled_none, row_in}
use Rattle.blocks.proofs.Usual.{filled_more, Turn, turn}
use Rattle.rows.specs.WMask.{mask_at}
use Rattle.blocks.proofs.Laws.WMask.Weighed.{weigh, Front, front, pairs}
use Rattle.blocks.proofs.w_mask.keep_pairs.Goals as goal
use Rattle.blocks.proofs.w_mask.keep_pairs.Goals.{In-loop-y, After-weight_row}

row : (c : In-loop-y) → let a = c.args in let y = c.loop-y.y in
    Turn a.mask_stride (a.w / 2) y c.loop-y.mask × (y * a.w + a.w ≤ length a.tmp1.now) × (y * a.w + a.w ≤ length a.tmp2.now)
row c =
    let p = c.requires.0 in let y = c.loop-y.y in let lt = c.loop-y-test.true in
    (turn 0 c.loop-y.invariant.0 p.mask lt, row_in y p.tmp1 lt, row_in y p.tmp2 lt)

-- the row's weights, as they stand in the array
line : (c : After-weight_row) → let a = c.args in
    Front a.w (λ i. weigh a.depth a.bits a.tmp1.now a.tmp2.now a.w i c.loop-y.y)
    (c.weight_row.new.m ++ drop a.w c.loop-y.m)
line c = front _ _ _ _ c.requires.0.block.w64 c.loop-y.invariant.1 c.weight_row.ensures

pub loop-y-init : goal.loop-y-init
loop-y-init c = (filled_none 0 _ _ _ _ _ (omega (arith, c.requires)), refl)

pub loop-y-preserved : goal.loop-y-preserved
unfolding mask_at
loop-y-preserved c =
    let p = c.requires.0 in let at = goal.at.loop-y-preserved c in
    let l = line at.After-weight_row in (
      filled_more 0 _ c.loop-y.invariant.0 p.mw1 p.mask c.loop-y-test.true
          (pairs _ _ _ l (omega (arith, row at.In-loop-y)) c.pair_row.ensures),
      l.len,
    )
