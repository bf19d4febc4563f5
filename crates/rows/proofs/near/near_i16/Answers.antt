use Rattle.rows.proofs.Usual.{◌∙◌, arith, w32, SFits, back}
use Rattle.rows.proofs.Laws.Filters.Near.{whole_is}
use Rattle.rows.proofs.near.near_i16.Goals as goal

pub returns : goal.returns
returns c =
    let fr : SFits w32 c.near_whole.result = omega arith in
    rw (back fr) (c.near_whole.ensures.0 ∙ whole_is _ _ c.near_highs_i16.ensures c.near_lows_i16.ensures, c.near_whole.ensures.1)
