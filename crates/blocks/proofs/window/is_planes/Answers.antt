use Rattle.blocks.proofs.Usual.{refl, is_planes}
use Rattle.blocks.proofs.Laws.Calls.Told.{left_passed, top_passed}
use Rattle.blocks.proofs.window.is_planes.Goals as goal

pub returns : goal.returns
unfolding is_planes
returns c =
    let a = c.args.a in
    rw (
      c.inside-2.ensures,
      c.inside.ensures,
      top_passed a c.struct_told-2-1.given,
      left_passed a c.struct_told-1.given,
    ) refl
