use Rattle.rows.proofs.Usual.{pos, get_or}
use Rattle.rows.specs.Scaled.{position, sixteenth, in_family, scaled_mid}
use Rattle.rows.specs.inner.Scaled.{eight_at}
use Rattle.rows.proofs.Laws.Blocks.Part.{PartUpto}
use Rattle.rows.proofs.scaled.scaled_row.Given as goal

abbrev pub invariant-loop-i : goal.invariant-loop-i
invariant-loop-i g l =
    PartUpto (pos 0)
    (λ x. let p = position l.by.start l.by.step x in scaled_mid l.bits (in_family l.table l.family (sixteenth p)) (eight_at (λ k. get_or (g.P.Pixel.values l.src) k 0) l.o p))
    l.initial.rows l.q l.w l.i l.rows
