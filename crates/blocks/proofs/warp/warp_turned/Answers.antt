use Rattle.blocks.proofs.Usual.{◌∙◌, refl}
use Rattle.blocks.proofs.Laws.Warp.Passes.{first_turned}
use Rattle.blocks.proofs.Laws.Warp.Shown.{margins_shown}
use Rattle.blocks.proofs.warp.warp_turned.Goals as goal

pub returns : goal.returns
returns g c =
    let a = c.args in let p = margins_shown g.met.P.Pixel.each a.src.now c.requires.1 in
    rw c.bits_of.ensures.is at c.warp_mid.ensures
    ∙ first_turned _ _ _ _ _ (g.P.Pixel.values a.src.now) a.s p _ _ _ refl (rw c.corner-first.ensures at c.upright.ensures)
