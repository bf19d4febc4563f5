use Rattle.blocks.proofs.Usual.{◌≤◌, ◌*◌, ◌+◌, arith, length, row_fits, row_in, Turn}
use Rattle.blocks.proofs.Laws.Loops.Shown.{shown_none, shown_more, shown_turn}
use Rattle.blocks.proofs.combine.mask_rows.Goals as goal
use Rattle.blocks.proofs.combine.mask_rows.Goals.{In-loop-y}

row : (g : _) (c : In-loop-y g) → let a = c.args in let y = c.loop-y.y in
    Turn a.dst_stride a.w y c.loop-y.dst × (y * a.w + a.w ≤ length a.tmp1.now)
    × (y * a.w + a.w ≤ length a.tmp2.now) × (y * a.mask_stride + a.w ≤ length a.mask.now)
row g c =
    let p = c.requires in let y = c.loop-y.y in let lt = c.loop-y-test.true in
    (shown_turn g.met.P.Pixel.each c.loop-y.invariant p.1 lt, row_in y p.2 lt, row_in y p.3 lt, row_fits _ _ _ _ y p.4 lt)

pub loop-y-init : goal.loop-y-init
loop-y-init g c = shown_none g.met.P.Pixel.each _ _ (omega (arith, c.requires))

pub loop-y-preserved : goal.loop-y-preserved
loop-y-preserved g c =
    let p = c.requires in
    shown_more g.met.P.Pixel.each _ c.loop-y.invariant p.0.w1 p.1 c.loop-y-test.true c.mask_row.ensures
