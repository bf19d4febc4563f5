use Rattle.rows.proofs.Usual.{◌∙◌, ap, sym, ◌+◌, add-zero, arith, pos, w16, back}
use Rattle.rows.specs.inner.Scaled.{pair_mid}
use Rattle.rows.proofs.Laws.Blocks.Part.{eight_stored}
use Rattle.rows.proofs.bytes.pairs.scaled_bilin_eight.Goals as goal

pub returns : goal.returns
returns c =
    let a = c.args in
    let mid = pair_mid a.src.now a.pixels.now a.fractions.now 0 in
    eight_stored (pos 0) (λ k. mid (a.i + k)) a.mid.now a.i (omega arith)
    (back {w = w16} (omega arith) ∙ c.scaled_bilin_px-v0.ensures ∙ ap mid (sym (add-zero a.i)))
    (back {w = w16} (omega arith) ∙ c.scaled_bilin_px-v1.ensures)
    (back {w = w16} (omega arith) ∙ c.scaled_bilin_px-v2.ensures)
    (back {w = w16} (omega arith) ∙ c.scaled_bilin_px-v3.ensures)
    (back {w = w16} (omega arith) ∙ c.scaled_bilin_px-v4.ensures)
    (back {w = w16} (omega arith) ∙ c.scaled_bilin_px-v5.ensures)
    (back {w = w16} (omega arith) ∙ c.scaled_bilin_px-v6.ensures)
    (back {w = w16} (omega arith) ∙ c.scaled_bilin_px-v7.ensures)
