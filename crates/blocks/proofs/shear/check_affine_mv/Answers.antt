use Rattle.blocks.proofs.Usual.{true, ◌≡◌, ◌∙◌, sym, rules, pos, back, need}
use Rattle.rows.specs.Numbers.{between}
use Rattle.blocks.proofs.shear.check_affine_mv.Goals as goal
use Rattle.blocks.proofs.shear.check_affine_mv.Goals.{After-lies-4}

-- the first tests, each met
module _ (c : After-lies-4) where
  width : between (pos 1) (pos 64) c.args.bw4 ≡ true
  width = sym (rw (back c.ranges.bw4) at c.lies.ensures) ∙ c.in_ok-needed.ensures.met

  height : between (pos 1) (pos 64) c.args.bh4 ≡ true
  height = sym (rw (back c.ranges.bh4) at c.lies-2.ensures) ∙ c.in_ok-needed-2.ensures.met

  column : between (pos 0) (pos 16384) c.args.bx4 ≡ true
  column = sym (rw (back c.ranges.bx4) at c.lies-3.ensures) ∙ c.in_ok-needed-3.ensures.met

pub returns-in_err-needed-4 : goal.returns-in_err-needed-4
unfolding need
returns-in_err-needed-4 c =
    let at = (goal.at.returns-in_err-needed-4 c).After-lies-4 in
    rw (width at, height at, column at) (search rules)

pub returns-in_err-needed-5 : goal.returns-in_err-needed-5
unfolding need
returns-in_err-needed-5 c =
    let at = (goal.at.returns-in_err-needed-5 c).After-lies-4 in
    rw (width at, height at, column at) (search rules)

pub returns-in_err-needed-6 : goal.returns-in_err-needed-6
unfolding need
returns-in_err-needed-6 c =
    let at = (goal.at.returns-in_err-needed-6 c).After-lies-4 in
    rw (width at, height at, column at) (search rules)

pub returns : goal.returns
unfolding need
returns c = let at = (goal.at.returns c).After-lies-4 in rw (width at, height at, column at) (search rules)
