use Rattle.blocks.proofs.Usual.{refl, le-leb, lt-leb, stride_ok}
use Rattle.blocks.proofs.refuse.stride_ok.Goals as goal

pub returns-then-row-s : goal.returns-then-row-s
unfolding stride_ok
returns-then-row-s c = rw (le-leb _ _ c.if-row-s.true) refl

pub returns-else-row-s : goal.returns-else-row-s
unfolding stride_ok
returns-else-row-s c = rw (lt-leb _ _ c.if-row-s.false) refl
