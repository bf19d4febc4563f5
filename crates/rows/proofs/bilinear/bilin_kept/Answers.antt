use Rattle.rows.proofs.Usual.{arith, w16, SFits, back}
use Rattle.rows.specs.Bilinear.{R}
use Rattle.rows.proofs.bilinear.bilin_kept.Goals as goal

pub returns : goal.returns
unfolding R
returns c =
    let fv : SFits w16 c.kept.result = omega arith in
    rw (back fv, c.kept.ensures, back c.ranges.s, c.half_power.ensures.0, back c.ranges.bias)
