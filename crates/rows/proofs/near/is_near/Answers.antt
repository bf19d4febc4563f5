use Rattle.rows.proofs.Usual.{arith, w8, at, back, fit}
use Rattle.rows.proofs.Laws.Numbers.Added.{added_none, added_more}
use Rattle.rows.proofs.near.is_near.Goals as goal

pub loop-j-preserved : goal.loop-j-preserved
loop-j-preserved c =
    let e = back (fit w8 {z = at c.args.f.now c.loop-j.j} c.tap_size-arg-1.given) in
    added_more c.loop-j.invariant (omega arith) (rw e at c.tap_size-s.ensures.0) (omega arith)

pub loop-j-init : goal.loop-j-init
loop-j-init c = added_none _ _ _
