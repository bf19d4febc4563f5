use Rattle.rows.proofs.Usual.{length, Upto}
use Rattle.rows.proofs.edge.fill_row.Given as goal

abbrev pub invariant-loop-i : goal.invariant-loop-i
invariant-loop-i g l = Upto 0 (λ x. g.P.Pixel.value l.v) (length l.initial.dst) l.i (g.P.Pixel.values l.dst)
