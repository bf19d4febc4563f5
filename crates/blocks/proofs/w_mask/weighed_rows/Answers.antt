use Rattle.blocks.proofs.Usual.{◌++◌, refl, ◌≤◌, ◌*◌, ◌+◌, arith, length, drop, row_in, Turn}
use Rattle.blocks.proofs.Laws.Loops.Shown.{shown_none, shown_more, shown_turn}
use Rattle.blocks.proofs.Laws.WMask.Weighed.{weigh, mixed_by, Front, front, weighed}
use Rattle.blocks.proofs.w_mask.weighed_rows.Goals as goal
use Rattle.blocks.proofs.w_mask.weighed_rows.Goals.{In-loop-y, After-weight_row}

row : (g : _) (c : In-loop-y g) → let a = c.args in let y = c.loop-y.y in
    Turn a.dst_stride a.w y c.loop-y.dst × (y * a.w + a.w ≤ length a.tmp1.now) × (y * a.w + a.w ≤ length a.tmp2.now)
row g c =
    let p = c.requires in let y = c.loop-y.y in let lt = c.loop-y-test.true in
    (shown_turn g.met.P.Pixel.each c.loop-y.invariant.0 p.1 lt, row_in y p.2 lt, row_in y p.3 lt)

-- the row's weights, as they stand in the array
line : (g : _) (c : After-weight_row g) → let a = c.args in
    Front a.w (λ i. weigh a.depth a.d.bits a.tmp1.now a.tmp2.now a.w i c.loop-y.y)
    (c.weight_row.new.m ++ drop a.w c.loop-y.m)
line g c = front _ _ _ _ c.requires.0.w64 c.loop-y.invariant.1 (rw c.bits_of-bits.ensures.is at c.weight_row.ensures)

pub loop-y-init : goal.loop-y-init
loop-y-init g c = (shown_none g.met.P.Pixel.each _ _ (omega (arith, c.requires)), refl)

pub loop-y-preserved : goal.loop-y-preserved
loop-y-preserved g c =
    let p = c.requires in let a = c.args in let at = goal.at.loop-y-preserved g c in
    let rule = mixed_by a.d.max a.d.bits a.d.bias a.tmp1.now a.tmp2.now a.w in
    let l = line g at.After-weight_row in
    let long = (row g at.In-loop-y).0.long in (
      shown_more g.met.P.Pixel.each _ c.loop-y.invariant.0 p.0.w1 p.1 c.loop-y-test.true
          (weighed rule c.loop-y.y _ _ l (omega (arith, long)) c.mask_row.ensures),
      l.len,
    )
