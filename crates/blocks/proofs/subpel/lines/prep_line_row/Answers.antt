use Rattle.blocks.proofs.Usual.{◌∙◌, arith, pos, w16, row_same, backn}
use Rattle.blocks.proofs.Laws.Subpel.Lines.{prep-none, prep_some}
use Rattle.blocks.proofs.subpel.lines.prep_line_row.Goals as goal

pub returns-then-step-eq0 : goal.returns-then-step-eq0
returns-then-step-eq0 g c =
    let a = c.args in
    c.prep_row.ensures ∙ prep-none _ (g.P.Pixel.values a.src.now) a.o a.step a.f.now _ _ _ c.if-step-eq0.true

pub returns-else-step-eq0 : goal.returns-else-step-eq0
returns-else-step-eq0 g c =
    rw (c.half_power-r.ensures.0, backn w16 c.bias_of.result (omega arith), c.bias_of.ensures.is) at c.tap_mid_row.ensures
    ∙ row_same (pos 0) _ _ _ (λ i b. prep_some _ _ _ _ _ _ (omega (arith, c.if-step-eq0.false)))
