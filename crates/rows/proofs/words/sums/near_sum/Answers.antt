use Rattle.rows.proofs.Usual.{◌∙◌, arith, w32, SFits, back}
use Rattle.rows.proofs.Laws.Filters.Near.{whole_is}
use Rattle.rows.proofs.words.sums.near_sum.Goals as goal

pub returns : goal.returns
returns c =
    let fr : SFits w32 c.near_whole.result = omega arith in
    rw (back fr) (c.near_whole.ensures.0 ∙ whole_is _ _ c.near_bytes.ensures c.near_bytes-2.ensures, c.near_whole.ensures.1)
