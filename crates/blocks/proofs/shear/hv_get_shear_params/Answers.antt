use Rattle.blocks.proofs.Usual.{sym, arith, w32, SFits, back, refused}
use Rattle.blocks.proofs.shear.hv_get_shear_params.Goals as goal

pub returns-then-number-ne0 : goal.returns-then-number-ne0
returns-then-number-ne0 c =
    let came : SFits w32 c.args.affine.now = omega arith in
    ((rw (back came) at c.get_shear_params-r.ensures).0, sym (refused _ _ _ c.if-number-ne0.true))
