use Rattle.blocks.proofs.Usual.{refl, row_of, row_from}
use Rattle.blocks.proofs.scaled.no_rows.Goals as goal

pub returns : goal.returns
unfolding row_of row_from
returns c = (refl, refl)
