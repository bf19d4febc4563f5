use Rattle.rows.proofs.Usual.{arith, w32, SFits, back, backn}
use Rattle.rows.specs.Combine.{morph}
use Rattle.rows.proofs.blend.morph_px.Goals as goal

pub returns : goal.returns
unfolding morph
returns g c =
    let f : SFits w32 c.scaled.result = omega arith in
    rw (c.clip.ensures, back f, c.scaled.ensures, back c.ranges.alpha, back c.ranges.beta, backn w32 c.to_u32.result (omega arith), c.to_u32.ensures.is)
