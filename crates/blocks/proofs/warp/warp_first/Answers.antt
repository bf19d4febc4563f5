use Rattle.blocks.proofs.Usual.{◌∙◌}
use Rattle.blocks.proofs.Laws.Warp.Passes.{first_straight}
use Rattle.blocks.proofs.Laws.Warp.Shown.{margins_shown}
use Rattle.blocks.proofs.warp.warp_first.Goals as goal

pub returns-then-s-eq0 : goal.returns-then-s-eq0
returns-then-s-eq0 g c =
    let a = c.args in let p = margins_shown g.met.P.Pixel.each a.src.now c.requires.1 in
    rw c.corner-first.ensures at c.warp_mid.ensures ∙ first_straight _ _ _ _ _ (g.P.Pixel.values a.src.now) a.s p _ c.if-s-eq0.true
