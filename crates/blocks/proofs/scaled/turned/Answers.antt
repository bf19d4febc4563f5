use Rattle.blocks.proofs.Usual.{refl, row_of, row_from}
use Rattle.blocks.proofs.scaled.turned.Goals as goal

pub returns : goal.returns
unfolding row_of row_from
returns c = refl
