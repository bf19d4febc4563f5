use Rattle.blocks.proofs.Laws.bytes.Depth.{deep_eight}
use Rattle.blocks.proofs.bytes.depth.depth_numbers.Goals as goal

pub returns : goal.returns
returns c = rw (deep_eight c.args.depth c.requires)
