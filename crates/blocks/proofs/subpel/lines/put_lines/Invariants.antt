use Rattle.blocks.proofs.Usual.{Filled}
use Rattle.blocks.specs.inner.Subpel.{put_line, along}
use Rattle.blocks.proofs.subpel.lines.put_lines.Given as goal

abbrev pub invariant-loop-y : goal.invariant-loop-y
invariant-loop-y g l =
    let v = g.P.Pixel.values in
    Filled l.dst_stride l.w (λ i j. put_line l.max l.p.first l.p.round l.p.bits l.p.step (along (v l.src) l.p.rows l.p.step i j)) (v l.initial.dst) l.h l.y (v l.dst)
