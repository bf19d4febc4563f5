use Rattle.blocks.proofs.Usual.{◌+◌, ◌*◌, refl, ap, arith, pos, ℤ, length, minus16, low16}
use Rattle.blocks.proofs.Laws.Loops.Groups.{filled_group, holds-first}
use Rattle.blocks.proofs.Laws.Loops.ByEight.{group_at, grouped_first, grouped_here, grouped_more, grouped_end}
use Rattle.blocks.proofs.Laws.Subpel.Both.{TurnBoth, turn_both, first-held, second-held, first_lines}
use Rattle.blocks.proofs.subpel.both.prep_8tap_both.Goals as goal
use Rattle.blocks.proofs.subpel.both.prep_8tap_both.Goals.{After-eight_at_most-k, then-y-k, else-y-k}

turn : (g : _) (c : After-eight_at_most-k g) → let a = c.args in
    TurnBoth (length a.tmp.now) a.tmp_stride (length a.src.now) a.p.rows (a.w + 7 * a.p.step) a.w a.h (8 * c.loop-group.group) c.eight_at_most-k.result
turn g c = turn_both c.requires.1 c.requires.2 c.loop-group-test.true c.eight_at_most-k.ensures

pub loop-group-init : goal.loop-group-init
loop-group-init g c =
    grouped_first (pos 0) (omega (arith, c.requires)) c.prep_lines.auto.tmp (holds-first c.requires.0.w64 _ 7 (omega arith) c.prep_lines.ensures)

pub prep_lines-requires-in-loop-group : goal.prep_lines-requires-in-loop-group
prep_lines-requires-in-loop-group g c =
    let p = c.requires in
    let t = turn g (goal.at.prep_lines-requires-in-loop-group g c).After-eight_at_most-k in
    rw c.plan_from-q.ensures (first_lines t p.0 _ c.loop-group.invariant.long, p.3, p.4, p.5, g.met.P.Pixel.no_bias)

pub slice_bounds-mid_prep_lines-end : goal.slice_bounds-mid_prep_lines-end
slice_bounds-mid_prep_lines-end g c =
    let t = turn g (goal.at.slice_bounds-mid_prep_lines-end g c).After-eight_at_most-k in
    omega (arith, t.to, c.loop-group.invariant.dst.len)

pub loop-group-preserved : goal.loop-group-preserved
loop-group-preserved g c =
    let a = c.args in let p = c.requires in
    let t = turn g (goal.at.loop-group-preserved g c).After-eight_at_most-k in
    let at = group_at c.loop-group-test.true c.eight_at_most-k.ensures in
    let i = grouped_here at c.loop-group.invariant in
    let m = first-held _ _ t p.0.w64 c.plan_from-q.ensures i.long (i.rows at.within) c.prep_lines-in-loop-group.ensures in
    let kept : ℤ → ℤ = λ v. minus16 (low16 v) (pos a.d.bias) in
    let made = rw c.bias_of-bias.ensures.is at c.mid_prep_lines.ensures in
    let d = filled_group (pos 0) i.dst p.1 p.0.w1 _ t.to.some t.to.left _ (λ i j u v. ap kept (second-held m.1 a.p.second _ _ i j u v)) _ refl _ made in
    elim c.if-y-k.branch [
      | then-y-k w ↦ rw w.mid-is (grouped_more at w.if-y-k.true p.0.w64 (omega arith) d m w.carry.ensures)
      | else-y-k w ↦ rw w.mid-is (grouped_end at w.if-y-k.false d m.0)
    ]
