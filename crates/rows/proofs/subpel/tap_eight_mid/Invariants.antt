use Rattle.rows.proofs.Usual.{◌+◌, ◌*◌, length, get_or, px, pos, minus16, low16, Upto}
use Rattle.rows.specs.Subpel.{tapped}
use Rattle.rows.proofs.subpel.tap_eight_mid.Given as goal

-- the first i are made
abbrev pub invariant-loop-i : goal.invariant-loop-i
invariant-loop-i g l = Upto (pos 0) (λ x. minus16 (low16 (tapped l.f l.by.r l.by.n (λ t. px (g.P.Pixel.values l.src) (l.o + x + t * l.by.step)))) l.bias) 8 l.i l.line

-- the first j are written
abbrev pub invariant-loop-j : goal.invariant-loop-j
invariant-loop-j g l = Upto (pos 0) (λ x. get_or l.line x (pos 0)) (length l.initial.tmp) l.j l.tmp
