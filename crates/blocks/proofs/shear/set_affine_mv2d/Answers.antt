use Rattle.blocks.proofs.Usual.{◌∙◌, refl, sym, ap, back, refused}
use Rattle.blocks.specs.declared.shear.WarpParams.{WarpParams}
use Rattle.blocks.proofs.Laws.Calls.Refuse.{made}
use Rattle.blocks.proofs.Laws.Calls.Why.{refuses}
use Rattle.blocks.proofs.Laws.Warp.Shears.{affine_mv_ready}
use Rattle.blocks.proofs.shear.set_affine_mv2d.Goals as goal

pub returns-in-Err : goal.returns-in-Err
returns-in-Err c =
    let f = c.ranges in let n = c.number.ensures in
    let e = rw (back f.bw4, back f.bh4, back f.mv_x, back f.mv_y, back f.bx4, back f.by4) at c.in-Err.ensures in
    ((n ∙ e, sym (refused _ _ _ (refuses c.in-Err.why n))), refl, refl)

pub with_mv-requires : goal.with_mv-requires
with_mv-requires c =
    let f = c.ranges in
    let e = rw (back f.bw4, back f.bh4, back f.mv_x, back f.mv_y, back f.bx4, back f.by4) at c.in-Ok.ensures in
    rw (back f.bw4, back f.bh4, back f.mv_x, back f.mv_y, back f.bx4, back f.by4) (affine_mv_ready _ _ _ _ _ _ _ (sym e))

pub returns-in-Ok : goal.returns-in-Ok
returns-in-Ok c =
    let f = c.ranges in
    let met = rw (back f.bw4, back f.bh4, back f.mv_x, back f.mv_y, back f.bx4, back f.by4) at c.in-Ok.ensures in
    let e = rw (back f.bw4, back f.bh4, back f.mv_x, back f.mv_y, back f.bx4, back f.by4) at c.with_mv.ensures in (
      (met, ap (λ (w : WarpParams). w.matrix) e ∙ made _ _),
      ap (λ (w : WarpParams). w.abcd) e,
      ap (λ (w : WarpParams). w.affine) e,
    )
