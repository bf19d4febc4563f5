use Rattle.rows.proofs.Usual.{◌∙◌, arith, pos, w16, SFits, back, fit}
use Rattle.rows.proofs.Laws.Filters.Near.{kept_is}
use Rattle.rows.proofs.Laws.Filters.Scaled.{family-lent, mid_by, mid-whole}
use Rattle.rows.proofs.Laws.Pixels.Values.{value-read}
use Rattle.rows.proofs.scaled.scaled_px.Goals as goal

pub returns-then-f-eq0 : goal.returns-then-f-eq0
returns-then-f-eq0 g c =
    let a = c.args in
    let f : SFits w16 c.prep_px.result = omega arith in
    let v = value-read g.met.P.Pixel.each _ _ _ (omega arith) c.index-src-c.is in
    back f ∙ rw v at c.prep_px.ensures ∙ mid-whole _ _ _ (g.P.Pixel.values a.src.now) a.o a.p c.if-f-eq0.true

pub returns : goal.returns
returns g c =
    let a = c.args in
    let e = family-lent a.table.now a.family a.p c.requires.1 (omega arith) in
    kept_is _ _ _ _ {b = pos 0} (omega arith) (fit w16 (omega arith)) (omega arith) (rw e at c.taps.ensures.is)
    (rw (c.half_power.ensures.0, c.bits_of-n.ensures.is) at c.kept.ensures)
    ∙ mid_by _ _ _ (g.P.Pixel.values a.src.now) a.o a.p (omega arith) (omega arith)
