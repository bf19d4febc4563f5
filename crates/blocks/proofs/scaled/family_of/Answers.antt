use Rattle.blocks.proofs.Usual.{◌≡◌, ◌∙◌, ap, ℕ, ◌+◌, ◌%◌, arith, up, rd}
use Rattle.blocks.proofs.Laws.Subpel.Choice.{family-low, family-high}
use Rattle.blocks.proofs.scaled.family_of.Goals as goal
use Rattle.blocks.proofs.scaled.family_of.Goals.{After-up32-t}

-- the type, as it is carried
t-is : (c : After-up32-t) → c.up32-t.result ≡ up c.args.filter_type
t-is c = omega (arith, c.up32-t.ensures, rd c.ranges.filter_type)

pub returns-then-side-le4 : goal.returns-then-side-le4
returns-then-side-le4 c = ap (λ (n : ℕ). 3 + n % 2) (t-is (goal.at.returns-then-side-le4 c).After-up32-t) ∙ family-low _ _ c.if-side-le4.true

pub returns-else-side-le4 : goal.returns-else-side-le4
returns-else-side-le4 c = t-is (goal.at.returns-else-side-le4 c).After-up32-t ∙ family-high _ _ c.if-side-le4.false
