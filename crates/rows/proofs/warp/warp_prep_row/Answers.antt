use Rattle.rows.proofs.Usual.{arith, w32, w16, SFits, at, upto_all, back}
use Rattle.rows.specs.Warp.{warped}
use Rattle.rows.proofs.Laws.Filters.Loop.{upto_kept}
use Rattle.rows.proofs.Laws.Filters.Warp.{length-filter, warp_kept_is}
use Rattle.rows.proofs.warp.warp_prep_row.Goals as goal

pub loop-c-preserved : goal.loop-c-preserved
unfolding warped
loop-c-preserved c =
    let fv : SFits w16 c.wrapping_sub16-v.result = omega arith in
    let fk : SFits w16 c.warp_kept.result = omega arith in
    let ft : SFits w32 c.taps_i16.result = omega arith in
    let mid = c.args.mid.now in
    let e = warp_kept_is (at mid) _ _ c.filter_for-f.ensures c.taps_i16.ensures.0 (rw (back ft) at c.warp_kept.ensures) in
    upto_kept c.loop-c.invariant (omega arith) fv (rw (c.wrapping_sub16-v.ensures, back fk, e))

pub returns : goal.returns
returns c = rw (← back c.ranges.bias) (upto_all c.loop-c.invariant (omega arith))

pub taps_i16-requires : goal.taps_i16-requires
taps_i16-requires c = omega (arith, length-filter _ _ _ c.filter_for-f.ensures)
