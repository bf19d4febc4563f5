use Rattle.blocks.proofs.Usual.{refl, arith, plane_side}
use Rattle.blocks.proofs.frame.plane_side.Goals as goal

pub returns-then-plane_no-flag : goal.returns-then-plane_no-flag
unfolding plane_side
returns-then-plane_no-flag c = rw c.if-plane_no-flag.true (omega arith)

pub returns-else-plane_no-flag : goal.returns-else-plane_no-flag
unfolding plane_side
returns-else-plane_no-flag c = rw c.if-plane_no-flag.false refl
