use Rattle.blocks.proofs.Usual.{◌∙◌}
use Rattle.blocks.specs.inner.Search.{best_of}
use Rattle.blocks.specs.inner.Source.{pixel_in}
use Rattle.blocks.proofs.Laws.Search.Ready.{refine_explicit}
use Rattle.blocks.proofs.search.refine.Goals as goal

pub returns : goal.returns
unfolding best_of
returns g c =
    let a = c.args in let v = g.P.Pixel.values in
    rw c.if-is_implicit.false
    (c.offset_of-2.ensures ∙ refine_explicit a.n.depth (pixel_in (v a.p0.now) a.n.s0) (pixel_in (v a.p1.now) a.n.s1) a.n.w a.n.h c.search.ensures)
