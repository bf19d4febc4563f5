use Rattle.blocks.proofs.Usual.{arith, w32, to_z, of_z, Turn}
use Rattle.rows.specs.Combine.{morph}
use Rattle.blocks.proofs.Laws.Loops.Shown.{shown_none, shown_turn}
use Rattle.blocks.proofs.Laws.Blend.Shown.{shown_over}
use Rattle.blocks.proofs.blend.morph_rows.Goals as goal
use Rattle.blocks.proofs.blend.morph_rows.Goals.{In-loop-y}

-- in a turn, row y is within the buffer
row : (g : _) (c : In-loop-y g) → Turn c.args.dst_stride c.args.w c.loop-y.y c.loop-y.dst
row g c = shown_turn g.met.P.Pixel.each c.loop-y.invariant c.requires.1 c.loop-y-test.true

pub loop-y-init : goal.loop-y-init
loop-y-init g c = shown_none g.met.P.Pixel.each _ _ (omega (arith, c.requires))

pub loop-y-preserved : goal.loop-y-preserved
loop-y-preserved g c =
    let a = c.args in
    let p = c.requires in
    shown_over g.met.P.Pixel.each (λ i j d. morph a.max (to_z w32 (of_z w32 a.alpha)) (to_z w32 (of_z w32 a.beta)) d) _
    c.loop-y.invariant p.0.w1 p.1 c.loop-y-test.true c.morph_row.ensures
