use Rattle.blocks.proofs.Laws.words.Depth.{depth-max}
use Rattle.blocks.proofs.sample.U16Sample.depth_numbers.Goals as goal

pub returns-clause-max : goal.returns-clause-max
returns-clause-max c = depth-max _ c.requires
