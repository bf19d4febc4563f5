use Rattle.rows.proofs.Laws.Numbers.Signed.{back}
use Rattle.blocks_c.proofs.shear.hv_set_affine_mv2d.Goals as goal

pub returns : goal.returns
returns c =
    let f = c.ranges in
    rw (back f.bw4, back f.bh4, back f.mv_x, back f.mv_y, back f.bx4, back f.by4) at c.hv_set_affine_mv2d.ensures
