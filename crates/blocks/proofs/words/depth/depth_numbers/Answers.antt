use Rattle.blocks.proofs.Usual.{◌≡◌, ◌∙◌, ap, up, back}
use Rattle.blocks.proofs.Laws.words.Depth.{depth-high}
use Rattle.blocks.proofs.words.depth.depth_numbers.Goals as goal
use Rattle.blocks.proofs.words.depth.depth_numbers.Goals.{After-up32-d}

above-is : (c : After-up32-d) → c.up32-d.result ≡ up c.args.depth
above-is c = c.up32-d.ensures ∙ ap up (back c.ranges.depth)

pub bitdepth_max-max-requires : goal.bitdepth_max-max-requires  -- words
bitdepth_max-max-requires c = rw (above-is (goal.at.bitdepth_max-max-requires c).After-up32-d) (depth-high c.args.depth c.requires)  -- words
