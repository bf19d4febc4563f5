use Rattle.rows.proofs.Usual.{arith, w32, w16, SFits, back}
use Rattle.rows.specs.Bilinear.{R}
use Rattle.rows.proofs.bytes.between.prep_between.Goals as goal

pub returns : goal.returns
unfolding R
returns c =
    let fv : SFits w16 c.kept.result = omega arith in
    let fb : SFits w32 c.between_u8.result = omega arith in
    rw (back fv, c.kept.ensures, back fb, c.between_u8.ensures.0, c.requires.2, back c.ranges.bias)
