use Rattle.blocks.proofs.Usual.{◌*◌, ◌+◌, at, clip, half, Filled}
use Rattle.rows.specs.Subpel.{tapped}
use Rattle.blocks.proofs.subpel.lines.mid_lines.Given as goal

abbrev pub invariant-loop-y : goal.invariant-loop-y
invariant-loop-y g l =
    let v = g.P.Pixel.values in
    Filled l.dst_stride l.w (λ i j. clip l.max (tapped l.f (half l.n) l.n (λ t. at l.mid (j * 64 + i + t * 64)))) (v l.initial.dst) l.h l.y (v l.dst)
