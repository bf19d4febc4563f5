use Rattle.blocks.proofs.Usual.{back}
use Rattle.blocks.specs.Scaled.{scaled_type_ok}
use Rattle.blocks.proofs.scaled.scaled_type_ok.Goals as goal

pub returns : goal.returns
unfolding scaled_type_ok
returns c = rw (back c.ranges.filter_type)
