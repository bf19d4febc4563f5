use Rattle.blocks.proofs.Usual.{◌∙◌, sym}
use Rattle.rows.specs.Search.{answer}
use Rattle.blocks.specs.inner.Search.{best_of}
use Rattle.blocks.specs.inner.Source.{pixel_in}
use Rattle.blocks.proofs.Laws.Search.Ready.{refine-at_once, refine_searched}
use Rattle.blocks.proofs.search.implicit.Goals as goal

pub returns-then-is_enough : goal.returns-then-is_enough
unfolding answer best_of
returns-then-is_enough g c =
    let a = c.args in let v = g.P.Pixel.values in
    refine-at_once a.n.depth (pixel_in (v a.p0.now) a.n.s0) (pixel_in (v a.p1.now) a.n.s1) a.n.w a.n.h c.sad_at.ensures.0 c.kept_of-sum.ensures
    (sym c.is_enough.ensures ∙ c.if-is_enough.true)

pub returns : goal.returns
unfolding best_of
returns g c =
    let a = c.args in let v = g.P.Pixel.values in
    refine_searched a.n.depth (pixel_in (v a.p0.now) a.n.s0) (pixel_in (v a.p1.now) a.n.s1) a.n.w a.n.h c.sad_at.ensures.0 c.kept_of-sum.ensures
    (sym c.is_enough.ensures ∙ c.if-is_enough.false) c.search.ensures
