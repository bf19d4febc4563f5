use Rattle.rows.proofs.Usual.{◌+◌, ◌^◌, pos, ◌+ℤ◌, length, shr_z, clip, px, Upto}
use Rattle.rows.specs.Bilinear.{R}
use Rattle.rows.specs.inner.Bilinear.{bilin_at}
use Rattle.rows.proofs.bilinear.put_bilin_row.Given as goal

-- the first i are done
abbrev pub invariant-loop-i : goal.invariant-loop-i
invariant-loop-i g l = Upto 0 (λ x. clip l.max (shr_z (R l.n (bilin_at (px (g.P.Pixel.values l.src)) (l.o + x) l.step l.f) +ℤ pos l.r) (2 ^ l.k))) (length l.initial.dst) l.i (g.P.Pixel.values l.dst)
