use Rattle.blocks.proofs.Usual.{refl, le-leb, lt-leb, size_ok}
use Rattle.blocks.proofs.refuse.size_ok.Goals as goal

pub returns-then-n-ge1 : goal.returns-then-n-ge1
unfolding size_ok
returns-then-n-ge1 c = rw (le-leb _ _ c.if-n-ge1.true) refl

pub returns-else-n-ge1 : goal.returns-else-n-ge1
unfolding size_ok
returns-else-n-ge1 c = rw (lt-leb _ _ c.if-n-ge1.false) refl
