use Rattle.blocks.proofs.Usual.{◌-◌}
use Rattle.rows.specs.Bilinear.{prep_bilin}
use Rattle.blocks.specs.inner.Source.{around_in}
use Rattle.blocks.proofs.Laws.Bilinear.Both.{first_mid}
use Rattle.blocks.proofs.Laws.Loops.ByEight.{rows_before}
use Rattle.blocks.proofs.Laws.Loops.Groups.{Grouped}
use Rattle.blocks.proofs.bilinear.prep_bilin_both.Given as goal

abbrev pub invariant-loop-group : goal.invariant-loop-group
invariant-loop-group g l =
    let src = g.P.Pixel.values l.src in
    Grouped 1 576 l.ts l.w (λ i j. prep_bilin l.b l.p l.f l.g (around_in 0 src l.s i j)) (first_mid (4 - l.b) l.f src l.s)
    l.initial.tmp l.h l.tmp l.mid (rows_before l.h l.group)
