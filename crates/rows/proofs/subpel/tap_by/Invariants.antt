use Rattle.rows.proofs.Usual.{◌+◌, ◌*◌, length, clip, px, Upto}
use Rattle.rows.specs.Subpel.{tapped}
use Rattle.rows.proofs.subpel.tap_by.Given as goal

-- the first i are done
abbrev pub invariant-loop-i : goal.invariant-loop-i
invariant-loop-i g l = Upto 0 (λ x. clip l.max (tapped l.f l.by.r l.by.n (λ t. px (g.P.Pixel.values l.src) (l.o + x + t * l.by.step)))) (length l.initial.dst) l.i (g.P.Pixel.values l.dst)
