use Rattle.rows.proofs.Usual.{◌+◌, length, get_or, pos, Upto}
use Rattle.rows.specs.Copy.{prep}
use Rattle.rows.proofs.copy.prep_row.Given as goal

abbrev pub invariant-loop-i : goal.invariant-loop-i
invariant-loop-i g l = Upto (pos 0) (λ x. prep l.bits l.bias (get_or (g.P.Pixel.values l.src) (l.o + x) 0)) (length l.initial.tmp) l.i l.tmp
