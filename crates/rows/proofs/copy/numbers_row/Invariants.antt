use Rattle.rows.proofs.Usual.{◌+◌, length, get_or, Upto}
use Rattle.rows.proofs.copy.numbers_row.Given as goal

abbrev pub invariant-loop-i : goal.invariant-loop-i
invariant-loop-i g l = Upto 0 (λ x. get_or (g.P.Pixel.values l.src) (l.o + x) 0) (length l.initial.dst) l.i l.dst
