use Rattle.blocks.proofs.Usual.{◌*◌, ◌+◌, ◌/◌}
use Rattle.rows.specs.Search.{row_apart}
use Rattle.rows.proofs.Laws.Numbers.Added.{Added}
use Rattle.blocks.specs.inner.Source.{pixel_in}
use Rattle.blocks.proofs.search.sad_sum.Given as goal

abbrev pub invariant-loop-r : goal.invariant-loop-r
invariant-loop-r g l =
    let v = g.P.Pixel.values in
    Added (λ r. row_apart (pixel_in (v l.p0) l.s0) (pixel_in (v l.p1) l.s1) l.w (2 * r)) (68 * 65535) ((l.h + 1) / 2) l.r l.s
