use Rattle.blocks.proofs.Usual.{◌+◌, minus16, px, low16, Filled}
use Rattle.rows.specs.Bilinear.{R}
use Rattle.rows.specs.inner.Bilinear.{bilin_at}
use Rattle.blocks.specs.inner.Source.{row_first}
use Rattle.blocks.proofs.bilinear.prep_bilin_axis.Given as goal

abbrev pub invariant-loop-y : goal.invariant-loop-y
invariant-loop-y g l =
    let src = g.P.Pixel.values l.src in
    Filled l.ts l.w (λ i j. minus16 (low16 (R l.by.n (bilin_at (px src) (row_first l.s j + i) l.by.step l.by.f))) l.bias) l.initial.tmp l.h l.y l.tmp
