use Rattle.rows.specs.Search as spec
use Rattle.blocks.specs.inner.Source.{pixel_in}
use Rattle.blocks.proofs.Laws.Search.Ready.{five}
use Rattle.blocks.proofs.search.search.Goals as goal

pub returns : goal.returns
unfolding spec.search
returns g c =
    let a = c.args in let v = g.P.Pixel.values in
    let sums = spec.sad_at a.n.depth (pixel_in (v a.p0.now) a.n.s0) (pixel_in (v a.p1.now) a.n.s1) a.n.w a.n.h in
    five (λ dy. spec.through spec.steps (λ dx. spec.visit sums dy dx))
    c.visit_row-b.ensures c.visit_row-b-2.ensures c.visit_row-b-3.ensures c.visit_row-b-4.ensures c.visit_row.ensures
