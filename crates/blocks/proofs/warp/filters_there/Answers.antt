use Rattle.rows.specs.Warp.{all_there}
use Rattle.blocks.proofs.Laws.Warp.Shown.{shears_passed}
use Rattle.blocks.proofs.warp.filters_there.Goals as goal

pub returns : goal.returns
unfolding all_there
returns c =
    let t = shears_passed c.args.m c.struct_told-6-1.given in
    rw (c.pass_there.ensures, c.pass_there-2.ensures, t.a, t.b, t.c, t.d, t.mx, t.my)
