use Rattle.blocks.proofs.Usual.{◌∙◌, arith, pos, Turn, turn, filled_none, filled_more}
use Rattle.blocks.proofs.Laws.Scaled.Lines.{prep-down_same}
use Rattle.blocks.proofs.Laws.Scaled.Rows.{eight_turned}
use Rattle.blocks.proofs.Laws.Scaled.Turns.{eight_kept_none, eight_kept_next, eight_asked, eight_row}
use Rattle.blocks.proofs.scaled.kernels.prep_8tap_scaled_rows.Goals as goal
use Rattle.blocks.proofs.scaled.kernels.prep_8tap_scaled_rows.Goals.{In-loop-y}

row : (g : _) (c : In-loop-y g) → let a = c.args in Turn a.tmp_stride a.w c.loop-y.y c.loop-y.tmp
row g c = turn (pos 0) c.loop-y.invariant.0 c.requires.1 c.loop-y-test.true

pub loop-y-init : goal.loop-y-init
loop-y-init g c =
    let e = c.no_rows-last.ensures in
    (filled_none (pos 0) _ _ _ _ _ (omega (arith, c.requires)), eight_kept_none e.0 e.1)

pub next_rows-order-requires : goal.next_rows-order-requires
next_rows-order-requires g c =
    let k = eight_asked c.loop-y.invariant.1 c.requires.2 c.loop-y-test.true in
    (k.0, k.1, k.2, c.requires.3)

pub prep_scaled_line-requires : goal.prep_scaled_line-requires
prep_scaled_line-requires g c =
    let e = c.next_rows-order.ensures in let p = c.requires in
    (omega (arith, row g (goal.at.prep_scaled_line-requires g c).In-loop-y, p.0), e.size, eight_turned e, p.2.table, p.2.high, c.bias_of-less.ensures.fits)

pub loop-y-preserved : goal.loop-y-preserved
loop-y-preserved g c =
    let p = c.requires in let y = c.loop-y.y in
    let t = row g (goal.at.loop-y-preserved g c).In-loop-y in (
      filled_more (pos 0) _ c.loop-y.invariant.0 p.0.w1 p.1 c.loop-y-test.true
          (rw c.bias_of-less.ensures.is at c.prep_scaled_line.ensures
          ∙ eight_row (pos 0) _ (prep-down_same _ _) _ c.next_rows-order.ensures _ (omega (arith, t))),
      eight_kept_next y c.next_rows-order.ensures,
    )
