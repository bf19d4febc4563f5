use Rattle.rows.proofs.Usual.{arith, w16, SFits, back, back16}
use Rattle.rows.specs.Subpel.{tapped}
use Rattle.rows.proofs.Laws.Filters.Near.{rounded_is}
use Rattle.rows.proofs.bytes.sums.rounded_taps.Goals as goal

pub returns-then-near : goal.returns-then-near
unfolding tapped
returns-then-near c =
    let fr : SFits w16 c.near_rounded.result = omega arith in
    let ft : SFits w16 c.near_sum.result = omega arith in
    rw (back16 fr, c.near_rounded.ensures, back ft, c.near_sum.ensures.0)

pub returns-else-near : goal.returns-else-near
returns-else-near c = rounded_is _ _ _ _ (omega arith) (omega arith) c.taps.ensures.0 c.rounded.ensures
