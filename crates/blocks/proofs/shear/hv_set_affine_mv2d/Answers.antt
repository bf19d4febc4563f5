use Rattle.blocks.proofs.Usual.{sym, back, refused}
use Rattle.blocks.proofs.shear.hv_set_affine_mv2d.Goals as goal

pub returns-then-number-ne0 : goal.returns-then-number-ne0
returns-then-number-ne0 c =
    let f = c.ranges in
    let e = rw (back f.bw4, back f.bh4, back f.mv_x, back f.mv_y, back f.bx4, back f.by4) at c.set_affine_mv2d-r.ensures.0 in
    (e.0, sym (refused _ _ _ c.if-number-ne0.true))

pub returns : goal.returns
returns c =
    let f = c.ranges in
    rw (back f.bw4, back f.bh4, back f.mv_x, back f.mv_y, back f.bx4, back f.by4) at c.set_affine_mv2d-r.ensures.0
