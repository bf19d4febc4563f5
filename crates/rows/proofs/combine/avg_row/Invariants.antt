use Rattle.rows.proofs.Usual.{length, Upto}
use Rattle.rows.specs.Combine.{avg, both}
use Rattle.rows.proofs.combine.avg_row.Given as goal

abbrev pub invariant-loop-i : goal.invariant-loop-i
invariant-loop-i g l = Upto 0 (both (avg l.max l.bits l.bias) l.tmp1 l.tmp2 l.q) (length l.initial.dst) l.i (g.P.Pixel.values l.dst)
