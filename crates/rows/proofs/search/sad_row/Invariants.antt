use Rattle.rows.proofs.Usual.{◌+◌, px}
use Rattle.rows.specs.Numbers.{apart}
use Rattle.rows.proofs.Laws.Numbers.Added.{Added}
use Rattle.rows.proofs.search.sad_row.Given as goal

abbrev pub invariant-loop-i : goal.invariant-loop-i
invariant-loop-i g l = Added (λ x. apart (px (g.P.Pixel.values l.p) (l.o + x)) (px (g.P.Pixel.values l.r) (l.q + x))) 65535 l.w l.i l.s
