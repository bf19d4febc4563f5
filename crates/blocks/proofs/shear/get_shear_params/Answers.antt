use Rattle.blocks.proofs.Usual.{◌∙◌, sym, length, refused}
use Rattle.blocks.proofs.Laws.Calls.Refuse.{made}
use Rattle.blocks.proofs.Laws.Calls.Why.{refuses}
use Rattle.blocks.proofs.Laws.Warp.Shears.{shear_ready}
use Rattle.blocks.proofs.shear.get_shear_params.Goals as goal

pub returns-in-Err : goal.returns-in-Err
returns-in-Err c = let n = c.number.ensures in (n ∙ c.in-Err.ensures, sym (refused _ _ _ (refuses c.in-Err.why n)))

pub with_shears-requires : goal.with_shears-requires
with_shears-requires c = shear_ready c.args.wm.matrix (length c.args.recip.now) (sym c.in-Ok.ensures)

pub returns-in-Ok : goal.returns-in-Ok
returns-in-Ok c = (c.in-Ok.ensures, c.with_shears.ensures ∙ made _ _)
