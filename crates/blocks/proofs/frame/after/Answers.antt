use Rattle.blocks.proofs.Usual.{refl, ne_eqb, after}
use borrow.Author.Tests.{eq-eqb}
use Rattle.blocks.proofs.frame.after.Goals as goal

pub returns-then-kind : goal.returns-then-kind
unfolding after
returns-then-kind c = rw c.if-kind.true refl

pub returns-then-kind-eq2 : goal.returns-then-kind-eq2
unfolding after
returns-then-kind-eq2 c = rw (c.if-kind.false, eq-eqb _ 2 c.if-kind-eq2.true) refl

pub returns-else-kind-eq2 : goal.returns-else-kind-eq2
unfolding after
returns-else-kind-eq2 c = rw (c.if-kind.false, ne_eqb _ 2 c.if-kind-eq2.false) refl
