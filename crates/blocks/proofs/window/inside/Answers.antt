use Rattle.blocks.proofs.Usual.{◌≡◌, refl, arith, pos, ◌+ℤ◌, w64, SFits, to_z, of_z, back, backn, fit_abs}
use Rattle.rows.proofs.Laws.Numbers.Signed.{abs-add}
use Rattle.blocks.specs.Window.{inside}
use Rattle.blocks.proofs.window.inside.Goals as goal
use Rattle.blocks.proofs.window.inside.Goals.{Start}

-- the sum, as the machine has it
is : (c : Start) → to_z w64 (of_z w64 c.args.x) +ℤ to_z w64 c.args.n ≡ c.args.x +ℤ pos c.args.n
is c = rw (back c.ranges.x, backn w64 c.args.n (omega arith)) refl

fits : (c : Start) → SFits w64 (c.args.x +ℤ pos c.args.n)
fits c = fit_abs w64 _ (omega (arith, abs-add c.args.x (pos c.args.n), c.requires))

pub returns : goal.returns
unfolding inside
returns c = rw (is c, back (fits c), back c.ranges.x, backn w64 c.args.side (omega arith)) refl
