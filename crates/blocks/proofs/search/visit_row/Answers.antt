use Rattle.blocks.proofs.Usual.{w32, to_z, of_z, back}
use Rattle.rows.specs.Search.{sad_at, visit}
use Rattle.blocks.specs.inner.Source.{pixel_in}
use Rattle.blocks.proofs.Laws.Search.Ready.{five}
use Rattle.blocks.proofs.search.visit_row.Goals as goal

pub returns : goal.returns
returns g c =
    let a = c.args in let v = g.P.Pixel.values in
    let sums = sad_at a.n.depth (pixel_in (v a.p0.now) a.n.s0) (pixel_in (v a.p1.now) a.n.s1) a.n.w a.n.h in
    rw (back c.ranges.dy) at (five (visit sums (to_z w32 (of_z w32 a.dy)))
    c.visit-b.ensures c.visit-b-2.ensures c.visit-b-3.ensures c.visit-b-4.ensures c.visit.ensures)
