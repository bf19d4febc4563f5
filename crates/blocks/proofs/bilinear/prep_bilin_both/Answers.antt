use Rattle.blocks.proofs.Usual.{◌*◌, ◌-◌, refl, arith, pos, length, w16, backn}
use Rattle.blocks.proofs.Laws.Bilinear.Both.{TurnBoth, turn_both, first-held, prep-held, first_pairs}
use Rattle.blocks.proofs.Laws.Loops.ByEight.{group_at, grouped_first, grouped_here, grouped_more, grouped_end}
use Rattle.blocks.proofs.Laws.Loops.Groups.{holds-first, filled_group}
use Rattle.blocks.proofs.bilinear.prep_bilin_both.Goals as goal
use Rattle.blocks.proofs.bilinear.prep_bilin_both.Goals.{After-eight_at_most-k, then-y-k, else-y-k}

turn : (g : _) (c : After-eight_at_most-k g) → let a = c.args in
    TurnBoth (length a.tmp.now) a.ts (length a.src.now) a.s a.w a.h (8 * c.loop-group.group) c.eight_at_most-k.result
turn g c = let p = c.requires in turn_both p.0 p.1 p.2 c.loop-group-test.true c.eight_at_most-k.ensures

pub loop-group-init : goal.loop-group-init
loop-group-init g c =
    let p = c.requires.0 in let first = c.prep_bilin_axis in
    grouped_first (pos 0) (omega (arith, p.block, p.dst)) first.auto.tmp (holds-first p.block.w64 _ 1 (omega arith) first.ensures)

pub prep_bilin_axis-requires-in-loop-group : goal.prep_bilin_axis-requires-in-loop-group
prep_bilin_axis-requires-in-loop-group g c =
    let p = c.requires in let l = c.loop-group in let t = turn g (goal.at.prep_bilin_axis-requires-in-loop-group g c).After-eight_at_most-k in
    rw c.rows_from-next.ensures (first_pairs p.0 t _ (omega arith) l.mid l.invariant.long p.1 p.2, omega arith)

pub slice_bounds-mid_bilin_prep_rows-end : goal.slice_bounds-mid_bilin_prep_rows-end
slice_bounds-mid_bilin_prep_rows-end g c =
    let t = turn g (goal.at.slice_bounds-mid_bilin_prep_rows-end g c).After-eight_at_most-k in
    omega (arith, t.to, c.loop-group.invariant.dst)

pub loop-group-preserved : goal.loop-group-preserved
loop-group-preserved g c =
    let a = c.args in let p = c.requires in let b = p.0.block in let src = g.P.Pixel.values a.src.now in let B = c.bits_of-b.result in
    let bias = c.bias_of-p in
    let t = turn g (goal.at.loop-group-preserved g c).After-eight_at_most-k in
    let at = group_at c.loop-group-test.true c.eight_at_most-k.ensures in
    let i = grouped_here at c.loop-group.invariant in
    let m = first-held (4 - B) a.f src a.s t b.w64 i.long (i.rows at.within) (rw c.rows_from-next.ensures at c.prep_bilin_axis-in-loop-group.ensures) in
    let d =
    filled_group (pos 0) i.dst p.0.dst b.w1 _ t.to.some t.to.left _
    (λ i j u v. prep-held B a.f src a.s t m.1 p.1 p.2 i j u v bias.result _ (backn w16 bias.result (omega (arith, bias.ensures.fits)))) _ refl _
    c.mid_bilin_prep_rows.ensures in
    elim c.if-y-k.branch [
      | then-y-k w ↦ rw w.mid-is (grouped_more at w.if-y-k.true b.w64 (omega arith) d m w.carry.ensures)
      | else-y-k w ↦ rw w.mid-is (grouped_end at w.if-y-k.false d m.0)
    ]
