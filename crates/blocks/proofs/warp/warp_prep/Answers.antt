use Rattle.blocks.proofs.Usual.{◌∙◌, refl, arith}
use Rattle.blocks.proofs.Laws.Warp.Passes.{prep-second}
use Rattle.blocks.proofs.Laws.Warp.Shown.{shears_passed}
use Rattle.blocks.proofs.warp.warp_prep.Goals as goal

pub returns : goal.returns
returns g c =
    let t = shears_passed c.args.m c.struct_told-1.given in
    let first = rw (t.mx, t.a, t.b) at c.warp_first.ensures in
    rw (t.my, t.c, t.d) at c.warp_prep_rows.ensures
    ∙ prep-second _ _ _ _ _ _ _ _ _ refl first _ _ _ _ _ _ (omega (arith, c.requires.0.dst))
