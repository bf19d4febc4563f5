use Rattle.blocks.proofs.Usual.{arith}
use Rattle.blocks.proofs.Laws.Loops.Shown.{shown_none, shown_more}
use Rattle.blocks.proofs.Laws.Subpel.Lines.{shown_line, told_near}
use Rattle.blocks.proofs.subpel.lines.put_lines.Goals as goal

pub loop-y-init : goal.loop-y-init
loop-y-init g c = shown_none g.met.P.Pixel.each _ _ (omega (arith, c.requires.0.dst))

pub loop-y-preserved : goal.loop-y-preserved
loop-y-preserved g c =
    let p = c.requires.0 in
    shown_more g.met.P.Pixel.each _ c.loop-y.invariant p.w1 p.dst c.loop-y-test.true (rw c.row_first-o.ensures at c.put_line_row.ensures)

pub put_line_row-requires : goal.put_line_row-requires
put_line_row-requires g c =
    let p = c.requires in
    let line = shown_line g.met.P.Pixel.each p.0 c.loop-y.invariant c.loop-y-test.true in
    (omega (arith, line, c.row_first-o.ensures), p.1, omega (arith, p), told_near _ c.is_near-near.ensures, p.4)
