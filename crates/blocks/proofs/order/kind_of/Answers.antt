use Rattle.blocks.proofs.Usual.{refl, ne_eqb, kind_of, back}
use Rattle.blocks.proofs.order.kind_of.Goals as goal

pub returns-then-kind-eq1 : goal.returns-then-kind-eq1
unfolding kind_of
returns-then-kind-eq1 c = let f = c.ranges in rw (c.if-kind-eq1.true, back f.mx, back f.my, back f.filter_type) refl

pub returns-then-kind-eq2 : goal.returns-then-kind-eq2
unfolding kind_of
returns-then-kind-eq2 c = let f = c.ranges in rw (c.if-kind-eq2.true, back f.mx, back f.my) refl

pub returns-then-kind-eq3 : goal.returns-then-kind-eq3
unfolding kind_of
returns-then-kind-eq3 c =
    let f = c.ranges in
    rw (c.if-kind-eq3.true, back f.a, back f.b, back f.c, back f.d, back f.mx, back f.my) refl

pub returns : goal.returns
unfolding kind_of
returns c = rw (ne_eqb _ _ c.if-kind-eq1.false, ne_eqb _ _ c.if-kind-eq2.false, ne_eqb _ _ c.if-kind-eq3.false) refl
