use Rattle.blocks.proofs.Usual.{refl, before}
use Rattle.blocks.proofs.frame.before.Goals as goal

pub returns-then-kind : goal.returns-then-kind
unfolding before
returns-then-kind c = rw c.if-kind.true refl

pub returns-else-kind : goal.returns-else-kind
unfolding before
returns-else-kind c = rw c.if-kind.false refl
