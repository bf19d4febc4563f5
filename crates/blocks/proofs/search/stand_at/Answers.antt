use Rattle.blocks.proofs.Usual.{arith}
use Rattle.blocks.specs.inner.Source.{row_first}
use Rattle.blocks.proofs.search.stand_at.Goals as goal

-- off + y forth - y back + x
pub overflow_add-off : goal.overflow_add-off
unfolding row_first
overflow_add-off c = omega (arith, c.requires, c.row_first.ensures)
