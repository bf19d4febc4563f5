use Rattle.blocks.proofs.Usual.{◌∙◌, arith, row_same}
use Rattle.blocks.proofs.Laws.Subpel.Lines.{put-none, put_some}
use Rattle.blocks.proofs.subpel.lines.put_line_row.Goals as goal

pub returns-then-step-eq0 : goal.returns-then-step-eq0
returns-then-step-eq0 g c =
    let a = c.args in
    c.copy_row.ensures ∙ put-none _ (g.P.Pixel.values a.src.now) a.o a.step a.f.now _ _ _ c.if-step-eq0.true

pub returns-else-step-eq0 : goal.returns-else-step-eq0
returns-else-step-eq0 g c =
    c.tap_row.ensures ∙ row_same 0 _ _ _ (λ i b. put_some _ _ _ _ _ _ (omega (arith, c.if-step-eq0.false)))
