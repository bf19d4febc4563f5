use Rattle.blocks.proofs.Usual.{arith, length}
use Rattle.blocks.proofs.Laws.Loops.Shown.{shown_none, shown_more}
use Rattle.blocks.proofs.Laws.Bilinear.Ready.{Turn}
use Rattle.blocks.proofs.Laws.Bilinear.Shown.{turn_shown}
use Rattle.blocks.proofs.bilinear.mid_bilin_rows.Goals as goal
use Rattle.blocks.proofs.bilinear.mid_bilin_rows.Goals.{In-loop-y}

row : (g : _) (c : In-loop-y g) → let a = c.args in
    Turn c.loop-y.dst a.ds (length a.mid.now) 64 64 a.w c.loop-y.y
row g c = turn_shown g.met.P.Pixel.each c.requires.0 c.loop-y.invariant c.loop-y-test.true

pub loop-y-init : goal.loop-y-init
loop-y-init g c = shown_none g.met.P.Pixel.each _ _ (omega (arith, c.requires))

pub loop-y-preserved : goal.loop-y-preserved
loop-y-preserved g c =
    let p = c.requires.0 in shown_more g.met.P.Pixel.each _ c.loop-y.invariant p.w1 p.dst c.loop-y-test.true c.mid_bilin_row.ensures
