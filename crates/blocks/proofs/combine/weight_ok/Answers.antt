use Rattle.blocks.proofs.Usual.{back}
use Rattle.blocks.specs.Combine.{weight_ok}
use Rattle.blocks.proofs.combine.weight_ok.Goals as goal

pub returns : goal.returns
unfolding weight_ok
returns c = rw (back c.ranges.weight)
