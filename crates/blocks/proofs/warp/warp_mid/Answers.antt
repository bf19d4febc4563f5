use Rattle.blocks.proofs.Usual.{arith, pos, filled_none, Turn}
use Rattle.blocks.proofs.Laws.Warp.Passes.{column-part, column_more}
use Rattle.blocks.proofs.warp.warp_mid.Goals as goal
use Rattle.blocks.proofs.warp.warp_mid.Goals.{In-loop-x}

-- in a turn, column x has its part of mid
part : (g : _) (c : In-loop-x g) → Turn 15 15 c.loop-x.x c.loop-x.mid
part g c = column-part c.loop-x.invariant c.requires.0 c.loop-x-test.true

pub loop-x-init : goal.loop-x-init
loop-x-init g c = filled_none (pos 0) _ _ _ _ _ (omega arith)

pub loop-x-preserved : goal.loop-x-preserved
loop-x-preserved g c =
    column_more c.loop-x.invariant c.requires.0 c.loop-x-test.true _ (rw c.bits_of-b.ensures.is at c.warp_column.ensures)
