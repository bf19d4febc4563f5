use Rattle.rows.proofs.Usual.{arith, w32, w16, SFits, back}
use Rattle.rows.proofs.Laws.Filters.Near.{joined_shr}
use Rattle.rows.proofs.near.near_kept.Goals as goal

pub returns : goal.returns
returns c =
    let fv : SFits w16 c.wrapping_sub16.result = omega arith in
    let fk : SFits w16 c.keep16.result = omega arith in
    let fj : SFits w32 c.near_join.result = omega arith in
    let fr : SFits w16 c.near_rounded.result = omega arith in
    rw (
      back fv,
      c.wrapping_sub16.ensures,
      back fk,
      c.keep16.ensures,
      back fj,
      c.near_join.ensures,
      back fr,
      c.near_rounded.ensures,
      back c.ranges.high,
      back c.ranges.low,
      back c.ranges.bias,
      ← joined_shr c.args.high c.args.low c.args.r c.args.n c.requires.3,
    )
