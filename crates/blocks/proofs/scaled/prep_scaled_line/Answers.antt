use Rattle.blocks.proofs.Usual.{◌∙◌, arith, w16, backn}
use Rattle.blocks.proofs.Laws.Scaled.Lines.{turned_lt, prep_line_whole, prep_line_by}
use Rattle.blocks.proofs.scaled.prep_scaled_line.Goals as goal

pub returns-then-f-eq0 : goal.returns-then-f-eq0
returns-then-f-eq0 c =
    let a = c.args in
    rw (backn w16 a.bias (omega arith)) at c.mid_bilin_prep_row.ensures
    ∙ prep_line_whole a.rows.now a.order a.subpel.now _ a.family _ a.bias c.if-f-eq0.true

pub returns-else-f-eq0 : goal.returns-else-f-eq0
returns-else-f-eq0 c =
    let a = c.args in
    rw (backn w16 a.bias (omega arith)) at c.mid_prep_by.ensures
    ∙ prep_line_by a.rows.now a.order a.subpel.now _ a.family _ c.requires.2 (omega (arith, c.if-f-eq0.false)) _
    (rw c.eight.ensures at c.by_rows-g.ensures) a.bias

-- where the fourth of the eight rows stands
pub overflow_mul-order : goal.overflow_mul-order
overflow_mul-order c = omega (arith, turned_lt c.requires.2 3 (omega arith))

pub mid_bilin_prep_row-requires : goal.mid_bilin_prep_row-requires
mid_bilin_prep_row-requires c = omega (arith, turned_lt c.requires.2 3 (omega arith))
