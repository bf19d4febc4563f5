use Rattle.rows.proofs.Usual.{◌+◌, length, get_or, Upto}
use Rattle.rows.proofs.copy.copy_whole.Given as goal

-- the first i are read
abbrev pub invariant-loop-i : goal.invariant-loop-i
invariant-loop-i g l = Upto 0 (λ x. get_or (g.P.Pixel.values l.src) (l.o + x) 0) 32 l.i (g.P.Pixel.values l.line)

-- the first j are written
abbrev pub invariant-loop-j : goal.invariant-loop-j
invariant-loop-j g l = Upto 0 (λ x. get_or (g.P.Pixel.values l.line) x 0) (length l.initial.dst) l.j (g.P.Pixel.values l.dst)
