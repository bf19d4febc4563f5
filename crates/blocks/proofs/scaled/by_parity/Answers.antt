use Rattle.blocks.proofs.Usual.{arith}
use Rattle.blocks.proofs.Laws.Scaled.Rows.{parity_even, parity_odd}
use Rattle.blocks.proofs.scaled.by_parity.Goals as goal

pub returns-then-p-eq0 : goal.returns-then-p-eq0
returns-then-p-eq0 c = parity_even _ (omega (arith, c.if-p-eq0.true))

pub returns-else-p-eq0 : goal.returns-else-p-eq0
returns-else-p-eq0 c = parity_odd _ (omega (arith, c.if-p-eq0.false))
