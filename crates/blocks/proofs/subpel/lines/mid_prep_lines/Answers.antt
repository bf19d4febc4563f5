use Rattle.blocks.proofs.Usual.{arith, pos, w16, backn, filled_none, filled_more}
use Rattle.blocks.proofs.subpel.lines.mid_prep_lines.Goals as goal

pub loop-y-init : goal.loop-y-init
loop-y-init c = filled_none (pos 0) _ _ _ _ _ (omega (arith, c.requires.0.dst))

pub loop-y-preserved : goal.loop-y-preserved
loop-y-preserved c =
    let p = c.requires.0 in
    filled_more (pos 0) _ c.loop-y.invariant p.w1 p.dst c.loop-y-test.true
    (rw (c.half_power-r.ensures.0, backn w16 c.args.bias (omega (arith, c.requires))) at c.mid_prep_row.ensures)
