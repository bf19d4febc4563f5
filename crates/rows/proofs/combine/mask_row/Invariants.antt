use Rattle.rows.proofs.Usual.{◌+◌, length, get_or, Upto}
use Rattle.rows.specs.Combine.{masked, both}
use Rattle.rows.proofs.combine.mask_row.Given as goal

abbrev pub invariant-loop-i : goal.invariant-loop-i
invariant-loop-i g l = Upto 0 (λ k. both (masked l.max l.bits l.bias (get_or l.mask (l.o + k) 0)) l.tmp1 l.tmp2 l.q k) (length l.initial.dst) l.i (g.P.Pixel.values l.dst)
