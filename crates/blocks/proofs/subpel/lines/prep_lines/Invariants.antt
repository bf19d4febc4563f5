use Rattle.blocks.proofs.Usual.{◌-◌, Filled}
use Rattle.blocks.specs.inner.Subpel.{prep_line, along}
use Rattle.blocks.proofs.subpel.lines.prep_lines.Given as goal

abbrev pub invariant-loop-y : goal.invariant-loop-y
invariant-loop-y g l =
    let v = g.P.Pixel.values in
    Filled l.tmp_stride l.w (λ i j. prep_line l.bits l.bias l.p.first (l.p.bits - l.bits) l.p.step (along (v l.src) l.p.rows l.p.step i j)) l.initial.tmp l.h l.y l.tmp
