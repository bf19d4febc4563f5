use Rattle.rows.proofs.Usual.{arith}
use Rattle.rows.proofs.Laws.Filters.Bilinear.{sum_joined}
use Rattle.rows.proofs.words.between.put_between.Goals as goal

pub returns : goal.returns
returns c =
    let a = c.args in
    rw (sum_joined a.src.now a.p a.step a.f (omega arith) c.high_between-high.ensures.0 c.low_between-low.ensures.0) c.bilin_joined.ensures
