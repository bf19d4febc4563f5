use Rattle.blocks.proofs.Usual.{◌≤◌, ◌*◌, ◌+◌, arith, length, row_in, block-loop, filled_none, Turn, turn}
use Rattle.blocks.proofs.w_mask.keep_each.Goals as goal
use Rattle.blocks.proofs.w_mask.keep_each.Goals.{In-loop-y}

row : (c : In-loop-y) → let a = c.args in let y = c.loop-y.y in
    Turn a.mask_stride a.w y c.loop-y.mask × (y * a.w + a.w ≤ length a.tmp1.now) × (y * a.w + a.w ≤ length a.tmp2.now)
row c =
    let p = c.requires.0 in let y = c.loop-y.y in let lt = c.loop-y-test.true in
    (turn 0 c.loop-y.invariant p.mask lt, row_in y p.tmp1 lt, row_in y p.tmp2 lt)

pub loop-y-init : goal.loop-y-init
loop-y-init c = filled_none 0 _ _ _ _ _ (omega (arith, c.requires))

pub loop-y-preserved : goal.loop-y-preserved
loop-y-preserved c = search block-loop
