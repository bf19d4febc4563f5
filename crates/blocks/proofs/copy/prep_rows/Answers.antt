use Rattle.blocks.proofs.Usual.{arith, length, pos, Turn, turn, filled_none, filled_more}
use Rattle.blocks.proofs.Laws.Loops.Stands.{StoodRow, stood_row}
use Rattle.blocks.proofs.copy.prep_rows.Goals as goal
use Rattle.blocks.proofs.copy.prep_rows.Goals.{In-loop-y}

row : (g : _) (c : In-loop-y g) → let a = c.args in let y = c.loop-y.y in
    Turn a.tmp_stride a.w y c.loop-y.tmp × StoodRow (length a.src.now) a.s a.w y
row g c =
    let p = c.requires in let y = c.loop-y.y in let lt = c.loop-y-test.true in
    (turn (pos 0) c.loop-y.invariant p.1 lt, stood_row y p.2 lt)

pub loop-y-init : goal.loop-y-init
loop-y-init g c = filled_none (pos 0) _ _ _ _ _ (omega (arith, c.requires))

pub loop-y-preserved : goal.loop-y-preserved
loop-y-preserved g c =
    let p = c.requires in
    filled_more (pos 0) _ c.loop-y.invariant p.0.w1 p.1 c.loop-y-test.true (rw c.row_first-o.ensures at c.prep_row.ensures)

pub prep_row-requires : goal.prep_row-requires
prep_row-requires g c = (omega (arith, row g (goal.at.prep_row-requires g c).In-loop-y, c.row_first-o.ensures), c.requires.3, c.requires.4)
