use Rattle.blocks.proofs.Usual.{◌≡◌, ◌∙◌, sym, ap, arith, w32, SFits, back}
use Rattle.rows.specs.Warp.{filter_no, is_there}
use Rattle.blocks.proofs.Laws.Warp.Corners.{in_below, in_above}
use Rattle.blocks.proofs.warp.corner_there.Goals as goal
use Rattle.blocks.proofs.warp.corner_there.Goals.{After-filter_no-f}

module _ (c : After-filter_no-f) where
  f : SFits w32 c.filter_no-f.result
  f = omega arith

  is : c.filter_no-f.result ≡ (let s = c.args in filter_no s.m s.a s.b s.r s.c)
  is = let s = c.ranges in rw (back s.m, back s.a, back s.b) at c.filter_no-f.ensures

pub returns-then-f-lt0 : goal.returns-then-f-lt0
returns-then-f-lt0 c =
    let s = (goal.at.returns-then-f-lt0 c).After-filter_no-f in
    sym (ap (is_there c.args.n) (sym (is s)) ∙ in_below _ _ (rw (back (f s)) at c.if-f-lt0.true))

pub returns-else-f-lt0 : goal.returns-else-f-lt0
returns-else-f-lt0 c =
    let s = (goal.at.returns-else-f-lt0 c).After-filter_no-f in
    rw (back (f s)) (in_above _ _ (rw (back (f s)) at c.if-f-lt0.false) ∙ ap (is_there c.args.n) (is s))
