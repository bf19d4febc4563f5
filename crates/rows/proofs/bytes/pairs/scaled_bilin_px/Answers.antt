use Rattle.rows.proofs.Usual.{◌∙◌, ap₂, ℕ, arith, pos, get_or, w16, SFits, back}
use Rattle.rows.specs.Bilinear.{bilin}
use Rattle.rows.proofs.Laws.Filters.Scaled.{byte_mid}
use Rattle.rows.proofs.bytes.pairs.scaled_bilin_px.Goals as goal

pub returns : goal.returns
returns c =
    let a = c.args in let e = c.bilin_bytes.ensures in
    let f : SFits w16 (pos c.bilin_bytes.result) = omega arith in
    let n = get_or a.fractions.now a.i 0 in
    back f ∙ byte_mid (e.0 ∙ ap₂ (λ (x y : ℕ). bilin (pos x) (pos y) n) c.pair_at-p.ensures.0 c.pair_at-p.ensures.1) e.1
