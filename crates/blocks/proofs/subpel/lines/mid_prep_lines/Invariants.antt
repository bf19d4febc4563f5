use Rattle.blocks.proofs.Usual.{◌*◌, ◌+◌, pos, at, minus16, half, low16, Filled}
use Rattle.rows.specs.Subpel.{tapped}
use Rattle.blocks.proofs.subpel.lines.mid_prep_lines.Given as goal

abbrev pub invariant-loop-y : goal.invariant-loop-y
invariant-loop-y l =
    Filled l.tmp_stride l.w (λ i j. minus16 (low16 (tapped l.f (half l.n) l.n (λ t. at l.mid (j * 64 + i + t * 64)))) (pos l.bias)) l.initial.tmp l.h l.y l.tmp
