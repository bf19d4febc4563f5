use Rattle.rows.proofs.Usual.{◌^◌, ◌<◌, arith}
use Rattle.rows.specs.Scaled.{position}
use Rattle.rows.proofs.Laws.Blocks.Part.{part_all}
use Rattle.rows.proofs.Laws.Filters.Scaled.{position-lt}
use Rattle.rows.proofs.scaled.scaled_row.Goals as goal
use Rattle.rows.proofs.scaled.scaled_row.Goals.{In-loop-i}

-- column i isn't far
bounded : (g : _) (c : In-loop-i g) → position c.args.by.start c.args.by.step c.loop-i.i < 2 ^ 20
bounded g c = position-lt c.requires.rows_len.5 (omega arith)

pub returns : goal.returns
returns g c = part_all c.loop-i.invariant (omega arith) (omega arith)
