use Rattle.rows.proofs.Usual.{arith}
use Rattle.rows.proofs.Laws.Filters.Near.{rounded_is}
use Rattle.rows.proofs.words.sums.rounded_taps.Goals as goal

pub returns-then-near : goal.returns-then-near
returns-then-near c = rounded_is _ _ _ _ (omega arith) (omega arith) c.near_sum.ensures.0 c.rounded.ensures

pub returns-else-near : goal.returns-else-near
returns-else-near c = rounded_is _ _ _ _ (omega arith) (omega arith) c.far_taps.ensures.0 c.rounded-else-near.ensures
