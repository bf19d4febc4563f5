use Rattle.blocks.proofs.Usual.{rules}
use Rattle.blocks.specs.inner.Source.{row_first}
use Rattle.blocks.proofs.source.row_first.Goals as goal

pub returns : goal.returns
unfolding row_first
returns c = search rules
