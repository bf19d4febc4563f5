use Rattle.blocks.proofs.Usual.{refl, motion_ok}
use Rattle.blocks.specs.Warp.{warp_place_ok}
use Rattle.blocks.proofs.Laws.Order.Kinds.{subpel_passed, bilin_passed, warp_passed}
use Rattle.blocks.proofs.order.motion_ok.Goals as goal

pub returns-in-Copy : goal.returns-in-Copy
unfolding motion_ok
returns-in-Copy c = rw c.in-Copy.is refl

pub returns-in-Subpel : goal.returns-in-Subpel
unfolding motion_ok
returns-in-Subpel c =
    rw (
      subpel_passed c.in-Subpel.is c.struct_told-1.given,
      c.type_ok.ensures,
      c.fraction_ok.ensures,
      c.fraction_ok-in-Subpel.ensures,
    )

pub returns-in-Bilinear : goal.returns-in-Bilinear
unfolding motion_ok
returns-in-Bilinear c =
    rw (bilin_passed c.in-Bilinear.is c.struct_told-in-Bilinear-1.given, c.sixteenth_ok.ensures, c.sixteenth_ok-in-Bilinear.ensures)

pub returns-in-Warp : goal.returns-in-Warp
unfolding motion_ok warp_place_ok
returns-in-Warp c =
    rw (warp_passed c.in-Warp.is c.struct_told-in-Warp-1.given, c.within.ensures, c.within-in-Warp.ensures)
