use Rattle.blocks.proofs.Usual.{◌∙◌, arith}
use Rattle.blocks.proofs.Laws.Scaled.Lines.{turned_lt, put_line_whole, put_line_by}
use Rattle.blocks.proofs.scaled.kernels.put_scaled_line.Goals as goal

pub returns-then-f-eq0 : goal.returns-then-f-eq0
returns-then-f-eq0 g c =
    let a = c.args in let b = c.bits_of-b.ensures in
    rw b.is at c.mid_bilin_row.ensures
    ∙ put_line_whole a.rows.now a.order a.subpel.now _ a.family _ a.max a.bits (omega (arith, b.is, b.fits)) c.if-f-eq0.true

pub returns-else-f-eq0 : goal.returns-else-f-eq0
returns-else-f-eq0 g c =
    let a = c.args in let b = c.bits_of-b.ensures.is in
    rw b at c.mid_by.ensures
    ∙ put_line_by a.rows.now a.order a.subpel.now _ a.family _ c.requires.2 (omega (arith, c.if-f-eq0.false)) _
    (rw c.eight.ensures at c.by_rows-g.ensures)
    a.max a.bits _ (rw b at c.half_power.ensures.0)

-- where the fourth of the eight rows stands
pub overflow_mul-order : goal.overflow_mul-order
overflow_mul-order g c = omega (arith, turned_lt c.requires.2 3 (omega arith))

pub mid_bilin_row-requires : goal.mid_bilin_row-requires
mid_bilin_row-requires g c =
    (omega (arith, turned_lt c.requires.2 3 (omega arith), c.requires), omega arith, omega (arith, c.bits_of-b.ensures.fits), c.requires.6)
