use Rattle.blocks.proofs.Usual.{◌-◌}
use Rattle.rows.specs.Bilinear.{put_bilin}
use Rattle.blocks.specs.inner.Source.{around_in}
use Rattle.blocks.proofs.Laws.Bilinear.Both.{first_mid}
use Rattle.blocks.proofs.Laws.Loops.ByEight.{rows_before}
use Rattle.blocks.proofs.Laws.Loops.Groups.{Grouped}
use Rattle.blocks.proofs.bilinear.put_bilin_both.Given as goal

abbrev pub invariant-loop-group : goal.invariant-loop-group
invariant-loop-group g l =
    let v = g.P.Pixel.values in let src = v l.src in
    Grouped 1 576 l.ds l.w (λ i j. put_bilin l.d.max l.b l.f l.g (around_in 0 src l.s i j)) (first_mid (4 - l.b) l.f src l.s)
    (v l.initial.dst) l.h (v l.dst) l.mid (rows_before l.h l.group)
