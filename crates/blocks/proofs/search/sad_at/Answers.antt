use Rattle.blocks.proofs.Usual.{back}
use Rattle.rows.proofs.Laws.Pixels.Values.{values-length}
use Rattle.blocks.proofs.Laws.Search.Ready.{offset_blocks, offset_sad}
use Rattle.blocks.proofs.search.sad_at.Goals as goal

pub sad_sum-requires : goal.sad_sum-requires
sad_sum-requires g c =
    let x = back c.ranges.dx in let y = back c.ranges.dy in (
      offset_blocks c.args.dx c.args.dy c.requires.0 c.requires.1 c.requires.2 (rw (x, y) at c.first_place-s0.ensures)
          (rw (x, y) at c.second_place-s1.ensures),
      c.requires.3,
    )

pub returns : goal.returns
returns g c =
    let a = c.args in let v = g.P.Pixel.values in let each = g.met.P.Pixel.each in let x = back c.ranges.dx in let y = back c.ranges.dy in (
      offset_sad a.n.depth (v a.p0.now) a.n.s0 (v a.p1.now) a.n.s1 a.n.w a.n.h a.dx a.dy
          (rw (values-length each a.p0.now, values-length each a.p1.now) c.requires.0) c.requires.1 c.requires.2
          (rw (x, y) at c.first_place-s0.ensures)
          (rw (x, y) at c.second_place-s1.ensures) c.sad_sum.ensures.0,
      c.sad_sum.ensures.1,
    )
