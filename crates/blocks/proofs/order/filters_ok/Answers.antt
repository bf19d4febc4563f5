use Rattle.blocks.proofs.Usual.{refl, filters_ok}
use Rattle.blocks.proofs.Laws.Order.Kinds.{subpel_passed}
use Rattle.blocks.proofs.Laws.Order.Ready.{warp_near}
use Rattle.blocks.proofs.order.filters_ok.Goals as goal

pub filters_there-requires : goal.filters_there-requires
filters_there-requires c =
    warp_near _ (rw c.in-Warp.is at c.requires)

pub returns-in-Copy : goal.returns-in-Copy
unfolding filters_ok
returns-in-Copy c = rw c.in-Copy.is refl

pub returns-in-Subpel : goal.returns-in-Subpel
unfolding filters_ok
returns-in-Subpel c =
    rw (subpel_passed c.in-Subpel.is c.struct_told-1.given, c.filter_in.ensures, c.filter_in-in-Subpel.ensures)

pub returns-in-Bilinear : goal.returns-in-Bilinear
unfolding filters_ok
returns-in-Bilinear c = rw c.in-Bilinear.is refl

pub returns-in-Warp : goal.returns-in-Warp
unfolding filters_ok
returns-in-Warp c =
    rw (c.in-Warp.is, c.filters_there.ensures)
