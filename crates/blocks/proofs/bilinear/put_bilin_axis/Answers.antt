use Rattle.blocks.proofs.Usual.{arith, length}
use Rattle.blocks.proofs.Laws.Loops.Shown.{shown_none, shown_more}
use Rattle.blocks.proofs.Laws.Bilinear.Ready.{TurnIn}
use Rattle.blocks.proofs.Laws.Bilinear.Shown.{turn-in_shown}
use Rattle.blocks.proofs.bilinear.put_bilin_axis.Goals as goal
use Rattle.blocks.proofs.bilinear.put_bilin_axis.Goals.{In-loop-y}

row : (g : _) (c : In-loop-y g) → let a = c.args in
    TurnIn c.loop-y.dst a.ds (length a.src.now) a.s a.by.step a.w c.loop-y.y
row g c = turn-in_shown g.met.P.Pixel.each c.requires.0 c.loop-y.invariant c.loop-y-test.true

pub loop-y-init : goal.loop-y-init
loop-y-init g c = shown_none g.met.P.Pixel.each _ _ (omega (arith, c.requires))

pub loop-y-preserved : goal.loop-y-preserved
loop-y-preserved g c =
    let p = c.requires.0 in
    shown_more g.met.P.Pixel.each _ c.loop-y.invariant p.w1 p.dst c.loop-y-test.true (rw c.row_first-o.ensures at c.put_bilin_row.ensures)

pub put_bilin_row-requires : goal.put_bilin_row-requires
put_bilin_row-requires g c =
    let r = row g (goal.at.put_bilin_row-requires g c).In-loop-y in
    (omega (arith, r, c.row_first-o.ensures), c.requires.0.f15, c.requires.1, c.requires.2, c.requires.3)
