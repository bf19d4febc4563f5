use Rattle.blocks.proofs.Usual.{back}
use Rattle.blocks.specs.Edge.{place_ok}
use Rattle.blocks.proofs.Laws.Edge.Ready.{within_both}
use Rattle.blocks.proofs.edge.place_ok.Goals as goal

pub returns : goal.returns
unfolding place_ok
returns c = rw (back c.ranges.x) (within_both 1073741823 c.args.x)
