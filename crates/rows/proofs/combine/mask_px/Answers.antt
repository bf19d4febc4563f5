use Rattle.rows.proofs.Usual.{arith, w32, SFits, back, backn}
use Rattle.rows.specs.Combine.{masked}
use Rattle.rows.proofs.combine.mask_px.Goals as goal

pub returns : goal.returns
unfolding masked
returns g c =
    let sum = c.mix in
    let f : SFits w32 sum.result = omega arith in
    let m = backn w32 c.args.m (omega arith) in
    rw (c.clip.ensures, back f, sum.ensures, back c.ranges.a, back c.ranges.b, m, c.rounding.ensures.0, c.bias_of.ensures.is, c.bits_of-k.ensures.is)
