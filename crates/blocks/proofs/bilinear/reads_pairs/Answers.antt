use Rattle.blocks.proofs.Usual.{◌∙◌}
use Rattle.blocks.proofs.Laws.Bilinear.Ready.{reads-holds}
use Rattle.blocks.proofs.bilinear.reads_pairs.Goals as goal

pub returns : goal.returns
returns c = let a = c.args in c.holds_rows.ensures ∙ reads-holds a.sl a.s a.x a.y c.requires.0
