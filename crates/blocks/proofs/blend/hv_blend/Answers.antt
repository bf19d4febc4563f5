use Rattle.blocks.proofs.Usual.{◌≡◌, ◌∙◌, sym, rules, length, lowest}
use Rattle.rows.proofs.Laws.Pixels.Values.{values-length}
use Rattle.blocks.specs.Refuse.{told, number_of, reason_of}
use Rattle.blocks.specs.Blend.{blend_shape}
use Rattle.blocks.proofs.Laws.Calls.Refuse.{not_zero}
use Rattle.blocks.proofs.Laws.Blend.Above.{found_none}
use Rattle.blocks.proofs.Laws.Blend.Ready.{blend_ready, blend-refused, blend_above, blend-done}
use Rattle.blocks.proofs.blend.hv_blend.Goals as goal
use Rattle.blocks.proofs.blend.hv_blend.Goals.{After-check_blend, In_ok-check_blend}

-- the tests speak of the pixels' numbers
number : (g : _) (c : After-check_blend g) → let a = c.args in let v = g.P.Pixel.values in
    told c.check_blend.result ≡ lowest (blend_shape (length (v a.dst.now)) a.dst_stride (length (v a.tmp.now)) a.w a.h (length a.mask.now))
number g c =
    let a = c.args in let each = g.met.P.Pixel.each in rw (values-length each a.dst.now, values-length each a.tmp.now) c.check_blend.ensures

shape : (g : _) (c : In_ok-check_blend g) → let a = c.args in let v = g.P.Pixel.values in
    lowest (blend_shape (length (v a.dst.now)) a.dst_stride (length (v a.tmp.now)) a.w a.h (length a.mask.now)) ≡ 0
shape g c = sym (rw c.in_ok-check_blend.was at (number g (goal.at.first_above-requires g c).After-check_blend))

pub first_above-requires : goal.first_above-requires
first_above-requires g c = let p = blend_ready (sym c.in_ok-check_blend.ensures) in (p.0, p.3)

pub blend_rows-requires : goal.blend_rows-requires
blend_rows-requires g c =
    let p = blend_ready (sym c.in_ok-check_blend.ensures) in (p.0, p.1, p.2, p.3, found_none c.args.mask.now c.args.w c.args.h c.in_default.ensures)

pub returns-in_err-check_blend : goal.returns-in_err-check_blend
returns-in_err-check_blend g c =
    let a = c.args in let v = g.P.Pixel.values in
    let n = rw c.in_err-check_blend.was at (number g (goal.at.returns-in_err-check_blend g c).After-check_blend) in
    let r : told c.from_residual.result ≡ number_of (reason_of c.in_err-check_blend.field-0.0) = search rules in
    blend-refused (v a.dst.now) _ (v a.tmp.now) _ _ _ _ (r ∙ n) λ z. not_zero _ (sym r ∙ z)

pub returns-in-Some : goal.returns-in-Some
returns-in-Some g c =
    blend_above (record { shape = shape g (goal.at.returns-in-Some g c).In_ok-check_blend; ends = c.in-Some.ensures })

pub returns : goal.returns
returns g c =
    blend-done (record { shape = shape g (goal.at.returns g c).In_ok-check_blend; ends = c.in_default.ensures }) _ c.blend_rows.ensures
