use Rattle.rows.proofs.Usual.{◌+◌, pos, length, px, minus16, low16, Upto}
use Rattle.rows.specs.Bilinear.{R}
use Rattle.rows.specs.inner.Bilinear.{bilin_at}
use Rattle.rows.proofs.bilinear.prep_bilin_row.Given as goal

-- the first i are done
abbrev pub invariant-loop-i : goal.invariant-loop-i
invariant-loop-i g l = Upto (pos 0) (λ x. minus16 (low16 (R l.n (bilin_at (px (g.P.Pixel.values l.src)) (l.o + x) l.step l.f))) l.bias) (length l.initial.tmp) l.i l.tmp
