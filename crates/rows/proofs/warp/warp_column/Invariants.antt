use Rattle.rows.proofs.Usual.{◌+◌, ◌*◌, pos, px, low16, Upto}
use Rattle.rows.specs.Warp.{warped}
use Rattle.rows.proofs.warp.warp_column.Given as goal

abbrev pub invariant-loop-r : goal.invariant-loop-r
invariant-loop-r g l = Upto (pos 0) (λ x. low16 (warped l.table l.by.m l.by.a l.by.b l.n x l.c (λ t. px (g.P.Pixel.values l.src) (l.o + x * l.s + t)))) 15 l.r l.mid
