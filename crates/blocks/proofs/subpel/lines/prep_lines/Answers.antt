use Rattle.blocks.proofs.Usual.{arith, pos, filled_none, filled_more}
use Rattle.blocks.proofs.Laws.Subpel.Lines.{line, told_near}
use Rattle.blocks.proofs.subpel.lines.prep_lines.Goals as goal

pub loop-y-init : goal.loop-y-init
loop-y-init g c = filled_none (pos 0) _ _ _ _ _ (omega (arith, c.requires.0.dst))

pub loop-y-preserved : goal.loop-y-preserved
loop-y-preserved g c =
    let p = c.requires.0 in
    filled_more (pos 0) _ c.loop-y.invariant p.w1 p.dst c.loop-y-test.true (rw (c.row_first-o.ensures, c.bits_of.ensures.is) at c.prep_line_row.ensures)

pub prep_line_row-requires : goal.prep_line_row-requires
prep_line_row-requires g c =
    let p = c.requires in
    let row = line (pos 0) p.0 c.loop-y.invariant c.loop-y-test.true in
    (omega (arith, row, c.row_first-o.ensures), omega (arith, p), told_near _ c.is_near-near.ensures, p.3, p.4)
