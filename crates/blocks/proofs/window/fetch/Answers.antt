use Rattle.blocks.proofs.Laws.Window.Ready.{area_filled, area_kept}
use Rattle.blocks.proofs.window.fetch.Goals as goal

pub returns-then-part-eq2 : goal.returns-then-part-eq2
returns-then-part-eq2 g c =
    (c.locate-part.ensures, area_filled _ _ _ c.locate-part.ensures _ _ c.if-part-eq2.true (rw c.top_down-s.ensures at c.edge_rows.ensures))

pub returns-else-part-eq2 : goal.returns-else-part-eq2
returns-else-part-eq2 g c = (c.locate-part.ensures, area_kept _ _ _ c.locate-part.ensures _ _ c.if-part-eq2.false)
