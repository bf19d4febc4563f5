use Rattle.blocks.proofs.Usual.{arith, pos, length, filled_none, filled_more}
use Rattle.blocks.proofs.Laws.Bilinear.Ready.{TurnIn, turn_in}
use Rattle.blocks.proofs.bilinear.prep_bilin_axis.Goals as goal
use Rattle.blocks.proofs.bilinear.prep_bilin_axis.Goals.{In-loop-y}

row : (g : _) (c : In-loop-y g) → let a = c.args in
    TurnIn c.loop-y.tmp a.ts (length a.src.now) a.s a.by.step a.w c.loop-y.y
row g c = turn_in (pos 0) c.requires.0 c.loop-y.invariant c.loop-y-test.true

pub loop-y-init : goal.loop-y-init
loop-y-init g c = filled_none (pos 0) _ _ _ _ _ (omega (arith, c.requires))

pub loop-y-preserved : goal.loop-y-preserved
loop-y-preserved g c =
    let p = c.requires.0 in
    filled_more (pos 0) _ c.loop-y.invariant p.w1 p.dst c.loop-y-test.true (rw c.row_first-o.ensures at c.prep_bilin_row.ensures)

pub prep_bilin_row-requires : goal.prep_bilin_row-requires
prep_bilin_row-requires g c = omega (arith, row g (goal.at.prep_bilin_row-requires g c).In-loop-y, c.row_first-o.ensures, c.requires)
