use Rattle.blocks.specs.inner.Scaled.{line_of, LastEight}
use Rattle.blocks.proofs.scaled.kernels.next_rows.Given as goal

abbrev pub invariant-loop-k : goal.invariant-loop-k
invariant-loop-k g l = LastEight l.w (line_of (g.P.Pixel.values l.src) l.subpel l.p) l.k l.rows l.order
