use Rattle.blocks.proofs.Usual.{◌+◌, pos, minus16, half, low16}
use Rattle.rows.specs.Subpel.{tapped}
use Rattle.blocks.specs.inner.Subpel.{first_pass}
use Rattle.blocks.proofs.Laws.Loops.Groups.{Grouped}
use Rattle.blocks.proofs.Laws.Loops.ByEight.{rows_before}
use Rattle.blocks.proofs.subpel.both.prep_8tap_both.Given as goal

abbrev pub invariant-loop-group : goal.invariant-loop-group
invariant-loop-group g l =
    let G = first_pass l.p l.d.bits (g.P.Pixel.values l.src) in
    Grouped 7 960 l.tmp_stride l.w (λ i j. minus16 (low16 (tapped l.p.second (half l.p.bits) l.p.bits (λ t. G i (j + t)))) (pos l.d.bias)) G
    l.initial.tmp l.h l.tmp l.mid (rows_before l.h l.group)
