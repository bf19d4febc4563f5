use Rattle.blocks.proofs.Usual.{◌+◌, clip, half}
use Rattle.rows.specs.Subpel.{tapped}
use Rattle.blocks.specs.inner.Subpel.{first_pass}
use Rattle.blocks.proofs.Laws.Loops.Groups.{Grouped}
use Rattle.blocks.proofs.Laws.Loops.ByEight.{rows_before}
use Rattle.blocks.proofs.subpel.both.put_8tap_both.Given as goal

abbrev pub invariant-loop-group : goal.invariant-loop-group
invariant-loop-group g l =
    let v = g.P.Pixel.values in let G = first_pass l.p l.d.bits (v l.src) in
    Grouped 7 960 l.dst_stride l.w (λ i j. clip l.d.max (tapped l.p.second (half (l.p.bits + l.d.bits)) (l.p.bits + l.d.bits) (λ t. G i (j + t)))) G
    (v l.initial.dst) l.h (v l.dst) l.mid (rows_before l.h l.group)
