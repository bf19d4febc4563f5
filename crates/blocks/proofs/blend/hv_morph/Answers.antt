use Rattle.blocks.proofs.Usual.{◌≡◌, ◌∙◌, sym, rules, length, lowest, back}
use Rattle.rows.proofs.Laws.Pixels.Values.{values-length}
use Rattle.blocks.specs.Refuse.{told, number_of, reason_of}
use Rattle.blocks.specs.Blend.{morph_tests}
use Rattle.blocks.proofs.Laws.Calls.Refuse.{made, stays}
use Rattle.blocks.proofs.Laws.Blend.Ready.{morph_ready}
use Rattle.blocks.proofs.blend.hv_morph.Goals as goal
use Rattle.blocks.proofs.blend.hv_morph.Goals.{After-check_morph}

number : (g : _) (c : After-check_morph g) → let a = c.args in
    told c.check_morph.result ≡ lowest (morph_tests (g.P.Sample.depth_ok a.depth) (length a.dst.now) a.dst_stride a.alpha a.beta a.w a.h)
number g c =
    simp (c.depth_ok.ensures.is, back c.ranges.depth, back c.ranges.alpha, back c.ranges.beta) at c.check_morph.ensures

pub depth_numbers-d-requires : goal.depth_numbers-d-requires
depth_numbers-d-requires g c =
    let n = rw c.in_ok-check_morph.was at (number g (goal.at.depth_numbers-d-requires g c).After-check_morph) in
    rw (back c.ranges.depth) (morph_ready _ _ _ c.args.alpha c.args.beta _ _ (sym n)).0

pub morph_rows-requires : goal.morph_rows-requires
morph_rows-requires g c =
    let n = rw c.in_ok-check_morph.was at (number g (goal.at.morph_rows-requires g c).After-check_morph) in
    let p = morph_ready _ _ _ c.args.alpha c.args.beta _ _ (sym n) in
    let e = c.depth_numbers-d.ensures in
    rw (e.is, back c.ranges.alpha, back c.ranges.beta) (p.1, p.2, p.3, p.4, e.max)

pub returns : goal.returns
returns g c =
    let n = rw c.in_ok-check_morph.was at (number g (goal.at.returns g c).After-check_morph) in
    let new = simp (c.depth_numbers-d.ensures.is, back c.ranges.depth, back c.ranges.alpha, back c.ranges.beta) at c.morph_rows.ensures in
    (rw (values-length g.met.P.Pixel.each c.args.dst.now) n, new ∙ made _ _)

pub returns-in_err-check_morph : goal.returns-in_err-check_morph
returns-in_err-check_morph g c =
    let n = rw c.in_err-check_morph.was at (number g (goal.at.returns-in_err-check_morph g c).After-check_morph) in
    let r : told c.from_residual.result ≡ number_of (reason_of c.in_err-check_morph.field-0.0) = search rules in
    (rw (values-length g.met.P.Pixel.each c.args.dst.now) (r ∙ n), stays _ c.in_err-check_morph.field-0.0 _ _ r)
