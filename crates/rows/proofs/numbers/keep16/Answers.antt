use Rattle.rows.proofs.Usual.{sfits_widen, w32, w16, to_z-of_z}
use Rattle.rows.proofs.Laws.Numbers.Low.{low16-fits, low16_shift}
use Rattle.rows.proofs.numbers.keep16.Goals as goal

pub returns : goal.returns
returns c =
    let f = low16-fits c.args.v in
    rw (low16_shift c.args.v c.ranges.v, to_z-of_z w32 _ (sfits_widen tt f), to_z-of_z w16 _ f)
