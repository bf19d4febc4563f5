use Rattle.blocks.proofs.Usual.{arith, Turn}
use Rattle.blocks.proofs.Laws.Loops.Shown.{shown_none, shown_turn}
use Rattle.blocks.proofs.Laws.Warp.Shown.{shown_row}
use Rattle.blocks.proofs.warp.warp_put_rows.Goals as goal
use Rattle.blocks.proofs.warp.warp_put_rows.Goals.{In-loop-y}

row : (g : _) (c : In-loop-y g) → Turn c.args.dst_stride 8 c.loop-y.y c.loop-y.dst
row g c = shown_turn g.met.P.Pixel.each c.loop-y.invariant c.requires.0 c.loop-y-test.true

pub loop-y-init : goal.loop-y-init
loop-y-init g c = shown_none g.met.P.Pixel.each _ _ (omega (arith, c.requires.0))

pub loop-y-preserved : goal.loop-y-preserved
loop-y-preserved g c =
    shown_row g.met.P.Pixel.each _ c.loop-y.invariant (omega arith) c.requires.0 c.loop-y-test.true (rw c.bits_of-b.ensures.is at c.warp_put_row.ensures)
