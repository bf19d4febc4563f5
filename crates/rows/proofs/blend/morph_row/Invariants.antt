use Rattle.rows.proofs.Usual.{get_or}
use Rattle.rows.specs.Combine.{morph}
use Rattle.rows.proofs.Laws.Blocks.Over.{Over}
use Rattle.rows.proofs.blend.morph_row.Given as goal

abbrev pub invariant-loop-i : goal.invariant-loop-i
invariant-loop-i g l = Over 0 (λ k. morph l.max l.alpha l.beta (get_or (g.P.Pixel.values l.initial.dst) k 0)) (g.P.Pixel.values l.initial.dst) l.i (g.P.Pixel.values l.dst)
