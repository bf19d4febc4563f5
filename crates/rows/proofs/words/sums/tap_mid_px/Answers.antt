use Rattle.rows.proofs.Usual.{arith}
use Rattle.rows.proofs.Laws.Filters.Near.{near_kept_is, kept_is}
use Rattle.rows.proofs.words.sums.tap_mid_px.Goals as goal

pub returns-then-near : goal.returns-then-near
returns-then-near c =
    near_kept_is _ _ _ _ (omega arith) c.ranges.bias c.near_bytes.ensures c.near_bytes-then-near.ensures c.near_kept.ensures

pub returns-else-near : goal.returns-else-near
returns-else-near c =
    kept_is _ _ _ _ (omega arith) c.ranges.bias (omega arith) c.far_taps.ensures.0 c.kept.ensures
