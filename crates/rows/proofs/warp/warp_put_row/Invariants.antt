use Rattle.rows.proofs.Usual.{◌+◌, ◌*◌, at, clip, low16, Upto}
use Rattle.rows.specs.Warp.{warped}
use Rattle.rows.proofs.warp.warp_put_row.Given as goal

abbrev pub invariant-loop-c : goal.invariant-loop-c
invariant-loop-c g l = Upto 0 (λ x. clip l.max (low16 (warped l.table l.by.m l.by.a l.by.b l.n l.r x (λ t. at l.mid (l.o + x * 15 + t))))) 8 l.c (g.P.Pixel.values l.dst)
