use Rattle.blocks.proofs.Usual.{arith}
use Rattle.blocks.proofs.Laws.Window.Ready.{margins}
use Rattle.blocks.proofs.frame.window_side.Goals as goal

pub overflow_add-result : goal.overflow_add-result
overflow_add-result c = omega (arith, c.before-2.ensures, margins c.args.kind)

pub overflow_add-result-2 : goal.overflow_add-result-2
overflow_add-result-2 c = omega (arith, c.before-2.ensures, c.after.ensures, margins c.args.kind)
