use Rattle.blocks.proofs.Usual.{◌≤◌, ◌*◌, ◌+◌, arith, length, pixel, row_in, Turn}
use Rattle.rows.specs.Combine.{blend}
use Rattle.blocks.proofs.Laws.Loops.Shown.{shown_none, shown_turn}
use Rattle.blocks.proofs.Laws.Blend.Above.{at-most-row}
use Rattle.blocks.proofs.Laws.Blend.Shown.{shown_over}
use Rattle.blocks.proofs.blend.blend_rows.Goals as goal
use Rattle.blocks.proofs.blend.blend_rows.Goals.{In-loop-y}

-- in a turn, row y is within all three buffers
row : (g : _) (c : In-loop-y g) → let a = c.args in let y = c.loop-y.y in
    Turn a.dst_stride a.w y c.loop-y.dst × (y * a.w + a.w ≤ length a.tmp.now) × (y * a.w + a.w ≤ length a.mask.now)
row g c =
    let p = c.requires in let y = c.loop-y.y in let lt = c.loop-y-test.true in
    (shown_turn g.met.P.Pixel.each c.loop-y.invariant p.1 lt, row_in y p.2 lt, row_in y p.3 lt)

pub loop-y-init : goal.loop-y-init
loop-y-init g c = shown_none g.met.P.Pixel.each _ _ (omega (arith, c.requires))

pub loop-y-preserved : goal.loop-y-preserved
loop-y-preserved g c =
    let a = c.args in let v = g.P.Pixel.values in
    let p = c.requires in
    shown_over g.met.P.Pixel.each (λ i j d. blend (pixel a.mask.now a.w i j) d (pixel (v a.tmp.now) a.w i j)) _
    c.loop-y.invariant p.0.w1 p.1 c.loop-y-test.true c.blend_row.ensures

pub blend_row-requires : goal.blend_row-requires
blend_row-requires g c =
    let p = c.requires in
    let r = row g (goal.at.blend_row-requires g c).In-loop-y in
    (omega (arith, r), omega (arith, r), at-most-row 64 c.args.mask.now p.4 c.loop-y-test.true r.0.long)
