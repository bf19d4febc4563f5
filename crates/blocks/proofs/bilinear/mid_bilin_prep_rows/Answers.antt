use Rattle.blocks.proofs.Usual.{arith, pos, length, filled_none, block-loop}
use Rattle.blocks.proofs.Laws.Bilinear.Ready.{Turn, turn}
use Rattle.blocks.proofs.bilinear.mid_bilin_prep_rows.Goals as goal
use Rattle.blocks.proofs.bilinear.mid_bilin_prep_rows.Goals.{In-loop-y}

row : (c : In-loop-y) → let a = c.args in
    Turn c.loop-y.tmp a.ts (length a.mid.now) 64 64 a.w c.loop-y.y
row c = turn (pos 0) c.requires c.loop-y.invariant c.loop-y-test.true

pub loop-y-init : goal.loop-y-init
loop-y-init c = filled_none (pos 0) _ _ _ _ _ (omega (arith, c.requires))

pub loop-y-preserved : goal.loop-y-preserved
loop-y-preserved c = search block-loop
