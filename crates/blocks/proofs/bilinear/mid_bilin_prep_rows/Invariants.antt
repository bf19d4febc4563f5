use Rattle.blocks.proofs.Usual.{◌*◌, ◌+◌, at, minus16, low16, Filled}
use Rattle.rows.specs.Bilinear.{R}
use Rattle.rows.specs.inner.Bilinear.{bilin_at}
use Rattle.blocks.proofs.bilinear.mid_bilin_prep_rows.Given as goal

abbrev pub invariant-loop-y : goal.invariant-loop-y
invariant-loop-y l = Filled l.ts l.w (λ i j. minus16 (low16 (R l.n (bilin_at (at l.mid) (j * 64 + i) 64 l.f))) l.bias) l.initial.tmp l.h l.y l.tmp
