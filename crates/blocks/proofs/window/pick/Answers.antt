use Rattle.blocks.proofs.Usual.{[], ne_eqb, part_of}
use borrow.Author.Tests.{eq-eqb}
use Rattle.rows.proofs.Laws.Pixels.Values.{values-span}
use Rattle.blocks.proofs.window.pick.Goals as goal

pub returns-then-buffer-eq1 : goal.returns-then-buffer-eq1
unfolding part_of
returns-then-buffer-eq1 g c = rw (eq-eqb _ 1 c.if-buffer-eq1.true) (values-span g.met.P.Pixel.each _ _ _)

pub returns-then-buffer-eq2 : goal.returns-then-buffer-eq2
unfolding part_of
returns-then-buffer-eq2 g c = rw (ne_eqb _ 1 c.if-buffer-eq1.false, eq-eqb _ 2 c.if-buffer-eq2.true) (values-span g.met.P.Pixel.each _ _ _)

pub returns : goal.returns
unfolding part_of
returns g c = rw (ne_eqb _ 1 c.if-buffer-eq1.false, ne_eqb _ 2 c.if-buffer-eq2.false) (g.met.P.Pixel.each [])
