use Rattle.rows.proofs.Usual.{arith}
use Rattle.rows.proofs.Laws.Filters.Near.{near_kept_is, kept_is}
use Rattle.rows.proofs.subpel.mid_prep_px.Goals as goal

pub returns-then-near : goal.returns-then-near
returns-then-near c =
    near_kept_is _ _ _ _ (omega arith) c.ranges.bias c.near_highs_i16.ensures c.near_lows_i16.ensures c.near_kept.ensures

pub returns-else-near : goal.returns-else-near
returns-else-near c =
    kept_is _ _ _ _ (omega arith) c.ranges.bias (omega arith) c.taps_i16.ensures.0 c.kept.ensures
