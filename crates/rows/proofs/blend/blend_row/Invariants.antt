use Rattle.rows.proofs.Usual.{◌+◌, get_or}
use Rattle.rows.specs.Combine.{blend}
use Rattle.rows.proofs.Laws.Blocks.Over.{Over}
use Rattle.rows.proofs.blend.blend_row.Given as goal

abbrev pub invariant-loop-i : goal.invariant-loop-i
invariant-loop-i g l =
    Over 0 (λ k. blend (get_or l.mask (l.q + k) 0) (get_or (g.P.Pixel.values l.initial.dst) k 0) (get_or (g.P.Pixel.values l.tmp) (l.q + k) 0))
    (g.P.Pixel.values l.initial.dst) l.i (g.P.Pixel.values l.dst)
