use Rattle.rows.proofs.Usual.{◌+◌, length, at, clip, Upto}
use Rattle.rows.specs.Bilinear.{R}
use Rattle.rows.specs.inner.Bilinear.{bilin_at}
use Rattle.rows.proofs.bilinear.mid_bilin_row.Given as goal

-- the first i are done
abbrev pub invariant-loop-i : goal.invariant-loop-i
invariant-loop-i g l = Upto 0 (λ x. clip l.max (R l.n (bilin_at (at l.mid) (l.o + x) l.step l.f))) (length l.initial.dst) l.i (g.P.Pixel.values l.dst)
