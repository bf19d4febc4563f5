use Rattle.rows.proofs.Usual.{◌∙◌, arith, upto_all}
use Rattle.rows.specs.Combine.{avg}
use Rattle.rows.proofs.Laws.Pixels.Pixel.{read-both}
use Rattle.rows.proofs.Laws.Pixels.Values.{painted_more}
use Rattle.rows.proofs.combine.avg_row.Goals as goal

pub loop-i-preserved : goal.loop-i-preserved
loop-i-preserved g c =
    painted_more g.met.P.Pixel.each c.loop-i.invariant (omega arith)
    (c.avg_px.ensures ∙ read-both (avg _ _ _) c.avg_px-arg-1.given c.avg_px-arg-in-loop-i-1.given)

pub returns : goal.returns
returns g c = upto_all c.loop-i.invariant (omega arith)
