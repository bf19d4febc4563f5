use Rattle.blocks.proofs.Usual.{arith, length, Turn, turn, filled_none, filled_more}
use Rattle.blocks.proofs.Laws.Loops.Stands.{StoodRow, stood_row}
use Rattle.blocks.proofs.Laws.Warp.Passes.{fifteen_rows}
use Rattle.blocks.proofs.warp.upright.Goals as goal
use Rattle.blocks.proofs.warp.upright.Goals.{In-loop-y}

row : (g : _) (c : In-loop-y g) → let a = c.args in let y = c.loop-y.y in Turn 15 15 y c.loop-y.rows × StoodRow (length a.src.now) a.s 15 y
row g c =
    let p = c.requires in let y = c.loop-y.y in let lt = c.loop-y-test.true in
    (turn 0 c.loop-y.invariant (fifteen_rows p.0) lt, stood_row y p.1 lt)

pub loop-y-init : goal.loop-y-init
loop-y-init g c = filled_none 0 _ _ _ _ _ (omega arith)

pub loop-y-preserved : goal.loop-y-preserved
loop-y-preserved g c =
    filled_more 0 _ c.loop-y.invariant (omega arith) (fifteen_rows c.requires.0) c.loop-y-test.true (rw c.row_first-o.ensures at c.numbers_row.ensures)

pub numbers_row-requires : goal.numbers_row-requires
numbers_row-requires g c = omega (arith, row g (goal.at.numbers_row-requires g c).In-loop-y, c.row_first-o.ensures)
