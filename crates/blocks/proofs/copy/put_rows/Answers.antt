use Rattle.blocks.proofs.Usual.{arith, length, Turn}
use Rattle.blocks.proofs.Laws.Loops.Stands.{StoodRow, stood_row}
use Rattle.blocks.proofs.Laws.Loops.Shown.{shown_none, shown_more, shown_turn}
use Rattle.blocks.proofs.copy.put_rows.Goals as goal
use Rattle.blocks.proofs.copy.put_rows.Goals.{In-loop-y}

row : (g : _) (c : In-loop-y g) → let a = c.args in let y = c.loop-y.y in
    Turn a.dst_stride a.w y c.loop-y.dst × StoodRow (length a.src.now) a.s a.w y
row g c =
    let p = c.requires in let y = c.loop-y.y in let lt = c.loop-y-test.true in
    (shown_turn g.met.P.Pixel.each c.loop-y.invariant p.1 lt, stood_row y p.2 lt)

pub loop-y-init : goal.loop-y-init
loop-y-init g c = shown_none g.met.P.Pixel.each _ _ (omega (arith, c.requires))

pub loop-y-preserved : goal.loop-y-preserved
loop-y-preserved g c =
    let p = c.requires in
    shown_more g.met.P.Pixel.each _ c.loop-y.invariant p.0.w1 p.1 c.loop-y-test.true (rw c.row_first-o.ensures at c.copy_row.ensures)

pub copy_row-requires : goal.copy_row-requires
copy_row-requires g c = omega (arith, row g (goal.at.copy_row-requires g c).In-loop-y, c.row_first-o.ensures)
