use Rattle.rows.proofs.Usual.{arith, w16, SFits, back, backn}
use Rattle.rows.specs.Bilinear.{R}
use Rattle.rows.proofs.Laws.Filters.Bilinear.{sum_joined}
use Rattle.rows.proofs.words.between.prep_between.Goals as goal

pub returns : goal.returns
unfolding R
returns c =
    let a = c.args in
    let e = sum_joined a.src.now a.p a.step a.f (omega arith) c.high_between-high.ensures.0 c.low_between-low.ensures.0 in
    let fh = backn w16 c.high_between-high.result (omega arith) in let fl = backn w16 c.low_between-low.result (omega arith) in
    let fv : SFits w16 c.near_kept.result = omega arith in
    let v = rw (fh, fl, c.requires.2, back c.ranges.bias) at c.near_kept.ensures in
    rw (back fv, e) v
