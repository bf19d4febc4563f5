use Rattle.blocks.proofs.Usual.{◌≡◌, ◌∙◌, sym, ◌+◌, eqb, nat_abs, back}
use Rattle.rows.specs.Search.{sad_at}
use Rattle.blocks.specs.inner.Source.{pixel_in}
use Rattle.blocks.proofs.Laws.Search.Ready.{visit-centre, visit_other}
use Rattle.blocks.proofs.search.visit.Goals as goal
use Rattle.blocks.proofs.search.visit.Goals.{After-is_centre}

centre : (g : _) (c : After-is_centre g) → let a = c.args in c.is_centre.result ≡ eqb (nat_abs a.dx + nat_abs a.dy) 0
centre g c = rw (back c.ranges.dx, back c.ranges.dy) at c.is_centre.ensures

pub returns-then-is_centre : goal.returns-then-is_centre
returns-then-is_centre g c =
    visit-centre _ _ _ _ (sym (centre g (goal.at.returns-then-is_centre g c).After-is_centre) ∙ c.if-is_centre.true)

pub returns : goal.returns
returns g c =
    let a = c.args in let v = g.P.Pixel.values in
    let sums = sad_at a.n.depth (pixel_in (v a.p0.now) a.n.s0) (pixel_in (v a.p1.now) a.n.s1) a.n.w a.n.h in
    let x = back c.ranges.dx in let y = back c.ranges.dy in
    visit_other sums _ _ _ _ _ (sym (centre g (goal.at.returns g c).After-is_centre) ∙ c.if-is_centre.false) (rw (x, y) at c.sad_at-sum.ensures.0)
    (rw (x, y) at c.take_better.ensures)
