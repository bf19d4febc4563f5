use Rattle.blocks.proofs.Usual.{Filled}
use Rattle.blocks.specs.inner.Source.{edge_in}
use Rattle.blocks.proofs.edge.edge_rows.Given as goal

abbrev pub invariant-loop-j : goal.invariant-loop-j
invariant-loop-j g l =
    Filled l.dst_stride l.a.ww (edge_in (g.P.Pixel.values l.plane) l.s l.a.iw l.a.ih l.a.left l.a.top) (g.P.Pixel.values l.initial.dst) l.a.wh l.j
    (g.P.Pixel.values l.dst)
