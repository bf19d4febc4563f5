use Rattle.rows.proofs.Usual.{◌+◌, ◌*◌, pos, length, px, minus16, low16, Upto}
use Rattle.rows.specs.Subpel.{tapped}
use Rattle.rows.proofs.subpel.tap_mid_by.Given as goal

-- the first i are done
abbrev pub invariant-loop-i : goal.invariant-loop-i
invariant-loop-i g l = Upto (pos 0) (λ x. minus16 (low16 (tapped l.f l.by.r l.by.n (λ t. px (g.P.Pixel.values l.src) (l.o + x + t * l.by.step)))) l.bias) (length l.initial.tmp) l.i l.tmp
