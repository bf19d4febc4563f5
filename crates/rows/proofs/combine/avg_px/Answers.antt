use Rattle.rows.proofs.Usual.{arith, w32, SFits, back}
use Rattle.rows.proofs.Laws.Pixels.Pixel.{avg-is}
use Rattle.rows.proofs.combine.avg_px.Goals as goal

pub returns : goal.returns
returns g c =
    let sum = c.mix in
    let f : SFits w32 sum.result = omega arith in
    rw (c.clip.ensures, back f, sum.ensures, back c.ranges.a, back c.ranges.b, c.rounding.ensures.0, c.bias_of.ensures.is, c.bits_of-k.ensures.is)
    (avg-is c.args.max c.args.bits c.args.bias c.args.a c.args.b)
