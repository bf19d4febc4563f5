use Rattle.rows.proofs.Usual.{◌+◌, ◌*◌, length, get_or, px, clip, Upto}
use Rattle.rows.specs.Subpel.{tapped}
use Rattle.rows.proofs.subpel.tap_eight.Given as goal

-- the first i are made
abbrev pub invariant-loop-i : goal.invariant-loop-i
invariant-loop-i g l = Upto 0 (λ x. clip l.max (tapped l.f l.by.r l.by.n (λ t. px (g.P.Pixel.values l.src) (l.o + x + t * l.by.step)))) 8 l.i (g.P.Pixel.values l.line)

-- the first j are written
abbrev pub invariant-loop-j : goal.invariant-loop-j
invariant-loop-j g l = Upto 0 (λ x. get_or (g.P.Pixel.values l.line) x 0) (length l.initial.dst) l.j (g.P.Pixel.values l.dst)
