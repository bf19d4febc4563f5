use Rattle.rows.proofs.Usual.{refl, ◌^◌, arith, pos, ℤ, ◌+ℤ◌, w32, SFits, back, mag-add}
use lib.Signed.{mag_shr}
use Rattle.rows.specs.Numbers.{half}
use Rattle.rows.specs.Bilinear.{R}
use Rattle.rows.proofs.bilinear.bilin_rnd.Goals as goal

pub returns : goal.returns
unfolding R
returns c =
    let v : ℤ = c.args.s +ℤ pos (half c.args.n) in
    let fr : SFits w32 c.rounded.result = omega arith in
    rw (back fr, c.rounded.ensures, back c.ranges.s, c.half_power.ensures.0)
    (refl, omega (arith, mag_shr v (2 ^ c.args.n), mag-add c.args.s (pos (half c.args.n))))
