use Rattle.blocks.proofs.Usual.{arith, pos, w16, backn, filled_none, Turn, turn}
use Rattle.blocks.proofs.Laws.Warp.Passes.{filled_row}
use Rattle.blocks.proofs.warp.warp_prep_rows.Goals as goal
use Rattle.blocks.proofs.warp.warp_prep_rows.Goals.{In-loop-y}

row : (c : In-loop-y) → Turn c.args.tmp_stride 8 c.loop-y.y c.loop-y.tmp
row c = turn (pos 0) c.loop-y.invariant c.requires.0 c.loop-y-test.true

pub loop-y-init : goal.loop-y-init
loop-y-init c = filled_none (pos 0) _ _ _ _ _ (omega (arith, c.requires.0))

pub loop-y-preserved : goal.loop-y-preserved
loop-y-preserved c =
    let e = rw (backn w16 c.args.bias (omega (arith, c.requires.3))) at c.warp_prep_row.ensures in
    filled_row (pos 0) _ c.loop-y.invariant (omega arith) c.requires.0 c.loop-y-test.true e
