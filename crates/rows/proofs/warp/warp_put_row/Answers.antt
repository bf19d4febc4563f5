use Rattle.rows.proofs.Usual.{arith, w32, w16, SFits, at, upto_all, back, back16}
use Rattle.rows.specs.Warp.{warped}
use Rattle.rows.proofs.Laws.Filters.Warp.{length-filter, warp_kept_is}
use Rattle.rows.proofs.Laws.Pixels.Values.{painted_more}
use Rattle.rows.proofs.warp.warp_put_row.Goals as goal

pub loop-c-preserved : goal.loop-c-preserved
unfolding warped
loop-c-preserved g c =
    let fk : SFits w16 c.warp_kept.result = omega arith in
    let ft : SFits w32 c.taps_i16.result = omega arith in
    let mid = c.args.mid.now in
    let e = warp_kept_is (at mid) _ _ c.filter_for-f.ensures c.taps_i16.ensures.0 (rw (back ft) at c.warp_kept.ensures) in
    painted_more g.met.P.Pixel.each c.loop-c.invariant (omega arith) (rw (c.clip-v.ensures, back16 fk, e))

pub taps_i16-requires : goal.taps_i16-requires
taps_i16-requires g c = omega (arith, length-filter _ _ _ c.filter_for-f.ensures)

pub returns : goal.returns
returns g c = upto_all c.loop-c.invariant (omega arith)
