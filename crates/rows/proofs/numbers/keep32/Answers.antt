use Rattle.rows.proofs.Usual.{sfits_widen, w32, w64, to_z-of_z}
use Rattle.rows.proofs.Laws.Numbers.Low.{low32-fits, low32_shift}
use Rattle.rows.proofs.numbers.keep32.Goals as goal

pub returns : goal.returns
returns c =
    let f = low32-fits c.args.v in
    rw (low32_shift c.args.v c.ranges.v, to_z-of_z w64 _ (sfits_widen tt f), to_z-of_z w32 _ f)
