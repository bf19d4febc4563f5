use Rattle.blocks.proofs.Usual.{◌≡◌, refl, arith, ◌-ℤ◌, w64, SFits, to_z, of_z, before, back, fit, backn, fit_abs}
use Rattle.blocks.specs.Window.{window_start}
use Rattle.blocks.proofs.Laws.Window.Ready.{margins, start_near}
use Rattle.blocks.proofs.frame.window_start.Goals as goal
use Rattle.blocks.proofs.frame.window_start.Goals.{After-before-2}

fits : (c : After-before-2) → SFits w64 (window_start c.args.kind c.args.x)
fits c = fit_abs w64 _ (omega (arith, start_near c.args.kind c.args.x c.requires))

-- the difference, as the machine has it
is : (c : After-before-2) → to_z w64 (of_z w64 c.args.x) -ℤ to_z w64 c.before-2.result ≡ window_start c.args.kind c.args.x
is c = rw (c.before-2.ensures, back c.ranges.x, backn w64 (before c.args.kind) (omega (arith, margins c.args.kind))) refl

pub overflow_cast-result : goal.overflow_cast-result
overflow_cast-result c = fit w64 (omega (arith, c.before-2.ensures, margins c.args.kind))

pub overflow_sub-result : goal.overflow_sub-result
overflow_sub-result c = rw (is c) (fits c)

pub returns : goal.returns
returns c = rw (is c) (back (fits c))
