use Rattle.rows.proofs.Usual.{◌+◌, ◌*◌, ◌≤◌, arith, length, w32, w16, SFits, px, upto_all, back}
use Rattle.rows.specs.Warp.{warped}
use Rattle.rows.proofs.Laws.Filters.Loop.{upto_kept}
use Rattle.rows.proofs.Laws.Filters.Warp.{tap_row, length-filter, warp_kept_is}
use Rattle.rows.proofs.warp.warp_column.Goals as goal
use Rattle.rows.proofs.warp.warp_column.Goals.{In-loop-r}

-- in a turn, the taps of row r are within src
place : (g : _) (c : In-loop-r g) → let a = c.args in a.o + c.loop-r.r * a.s + 8 ≤ length a.src.now
place g c = tap_row _ _ _ _ c.requires.mid_len.1 c.loop-r-test.true

pub loop-r-preserved : goal.loop-r-preserved
unfolding warped
loop-r-preserved g c =
    let fk : SFits w16 c.warp_kept-v.result = omega arith in
    let ft : SFits w32 c.taps.result = omega arith in
    let src = g.P.Pixel.values c.args.src.now in
    upto_kept c.loop-r.invariant (omega arith) fk
    (warp_kept_is (px src) _ _ c.filter_for-f.ensures c.taps.ensures.is (rw (back ft) at c.warp_kept-v.ensures))

pub taps-requires : goal.taps-requires
taps-requires g c = omega (arith, place g (goal.at.taps-requires g c).In-loop-r, length-filter _ _ _ c.filter_for-f.ensures)

pub returns : goal.returns
returns g c = upto_all c.loop-r.invariant (omega arith)
