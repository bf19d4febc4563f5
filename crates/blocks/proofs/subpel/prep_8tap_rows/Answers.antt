use Rattle.blocks.proofs.Usual.{◌∙◌, arith}
use Rattle.blocks.proofs.Laws.Subpel.Cases.{Planned, bits_in, one_ready, both_reach, prep-block, prep_two}
use Rattle.blocks.proofs.subpel.prep_8tap_rows.Goals as goal
use Rattle.blocks.proofs.subpel.prep_8tap_rows.Goals.{After-plan_8tap-p}

planned : (g : _) (c : After-plan_8tap-p g) → let a = c.args in
    Planned a.subpel.now a.ext.now a.s a.l.w a.l.h a.m.mx a.m.my a.m.filter_type a.d.bits c.plan_8tap-p.result
planned g c = record { is = rw c.bits_of-bits.ensures.is at c.plan_8tap-p.ensures }

pub prep_8tap_both-requires : goal.prep_8tap_both-requires
prep_8tap_both-requires g c =
    let p = c.requires in
    let z = planned g (goal.at.prep_8tap_both-requires g c).After-plan_8tap-p in
    let n = bits_in z in
    (p.0, p.1, both_reach z p.0 p.2 c.if-p.true, n.0, n.1, p.3, p.4)

pub returns-then-p : goal.returns-then-p
returns-then-p g c =
    let p = c.requires in
    let z = planned g (goal.at.returns-then-p g c).After-plan_8tap-p in
    c.prep_8tap_both.ensures ∙ prep_two z p.0 p.2 (g.P.Pixel.values c.args.src.now) c.if-p.true _ _ (omega (arith, p.0, p.1)) _

pub prep_lines-requires : goal.prep_lines-requires
prep_lines-requires g c =
    let p = c.requires in
    let z = planned g (goal.at.prep_lines-requires g c).After-plan_8tap-p in
    let n = bits_in z in
    (one_ready z p.0 p.2 p.1 c.if-p.false, n.0, n.1, p.3, p.4)

pub returns : goal.returns
returns g c =
    let p = c.requires in
    let z = planned g (goal.at.returns g c).After-plan_8tap-p in
    c.prep_lines.ensures ∙ prep-block z p.0 p.2 (g.P.Pixel.values c.args.src.now) c.if-p.false _ _ (omega (arith, p.0, p.1)) _
