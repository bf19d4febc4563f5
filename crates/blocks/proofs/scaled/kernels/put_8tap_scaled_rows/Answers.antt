use Rattle.blocks.proofs.Usual.{◌∙◌, arith, Turn}
use Rattle.blocks.proofs.Laws.Loops.Shown.{shown_none, shown_more, shown_turn}
use Rattle.blocks.proofs.Laws.Scaled.Lines.{put-down_same}
use Rattle.blocks.proofs.Laws.Scaled.Rows.{eight_turned}
use Rattle.blocks.proofs.Laws.Scaled.Turns.{eight_kept_none, eight_kept_next, eight_asked, eight_row}
use Rattle.blocks.proofs.scaled.kernels.put_8tap_scaled_rows.Goals as goal
use Rattle.blocks.proofs.scaled.kernels.put_8tap_scaled_rows.Goals.{In-loop-y}

row : (g : _) (c : In-loop-y g) → let a = c.args in Turn a.dst_stride a.w c.loop-y.y c.loop-y.dst
row g c = shown_turn g.met.P.Pixel.each c.loop-y.invariant.0 c.requires.1 c.loop-y-test.true

pub loop-y-init : goal.loop-y-init
loop-y-init g c =
    let e = c.no_rows-last.ensures in
    (shown_none g.met.P.Pixel.each _ _ (omega (arith, c.requires)), eight_kept_none e.0 e.1)

pub next_rows-order-requires : goal.next_rows-order-requires
next_rows-order-requires g c =
    let k = eight_asked c.loop-y.invariant.1 c.requires.2 c.loop-y-test.true in
    (k.0, k.1, k.2, c.requires.3)

pub put_scaled_line-requires : goal.put_scaled_line-requires
put_scaled_line-requires g c =
    let e = c.next_rows-order.ensures in let p = c.requires in
    (omega (arith, row g (goal.at.put_scaled_line-requires g c).In-loop-y, p.0), e.size, eight_turned e, p.2.table, p.2.high, p.3, p.4)

pub loop-y-preserved : goal.loop-y-preserved
loop-y-preserved g c =
    let p = c.requires in let y = c.loop-y.y in
    let t = row g (goal.at.loop-y-preserved g c).In-loop-y in (
      shown_more g.met.P.Pixel.each _ c.loop-y.invariant.0 p.0.w1 p.1 c.loop-y-test.true
          (c.put_scaled_line.ensures ∙ eight_row 0 _ (put-down_same _ _ _) _ c.next_rows-order.ensures _ (omega (arith, t))),
      eight_kept_next y c.next_rows-order.ensures,
    )
