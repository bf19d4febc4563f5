use Rattle.blocks.proofs.Usual.{arith}
use Rattle.blocks.proofs.Laws.Loops.Shown.{shown_none, shown_more}
use Rattle.blocks.proofs.subpel.lines.mid_lines.Goals as goal

pub loop-y-init : goal.loop-y-init
loop-y-init g c = shown_none g.met.P.Pixel.each _ _ (omega (arith, c.requires.0.dst))

pub loop-y-preserved : goal.loop-y-preserved
loop-y-preserved g c =
    let p = c.requires.0 in
    shown_more g.met.P.Pixel.each _ c.loop-y.invariant p.w1 p.dst c.loop-y-test.true (rw c.half_power-r.ensures.0 at c.mid_row.ensures)
