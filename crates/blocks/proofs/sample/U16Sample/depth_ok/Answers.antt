use Rattle.blocks.proofs.Usual.{◌∙◌, sym, back}
use Rattle.blocks.proofs.Laws.words.Depth.{depth_range}
use Rattle.blocks.proofs.sample.U16Sample.depth_ok.Goals as goal

pub returns-clause-deep : goal.returns-clause-deep
returns-clause-deep c e = depth_range c.args.depth (sym (rw (back c.ranges.depth) at c.depth_ok.ensures) ∙ e)
