use Rattle.rows.proofs.Usual.{◌*◌, ◌≤◌, arith, w32, w8, at, back, fit, steps-le, summed_none, summed_more}
use Rattle.rows.specs.Subpel.{S}
use Rattle.rows.proofs.Laws.Filters.Loop.{summed_eight}
use Rattle.rows.proofs.words.sums.far_taps.Goals as goal
use Rattle.rows.proofs.words.sums.far_taps.Goals.{In-loop-j}

-- place j is within src
place : (c : In-loop-j) → c.loop-j.j * c.args.step ≤ 7 * c.args.step
place c = steps-le c.loop-j.j c.args.step c.loop-j-test.true

pub loop-j-preserved : goal.loop-j-preserved
loop-j-preserved c =
    let ff = back (fit w8 {z = at c.args.f.now c.loop-j.j} c.tap_pixel-arg-1.given) in
    (omega arith, rw (back (fit w32 c.tap_pixel-s.type_inv)) (summed_more c.loop-j.invariant.1 (rw ff at c.tap_pixel-s.ensures)))

pub returns : goal.returns
unfolding S
returns c = let h = c.loop-j in summed_eight h.invariant.0 (omega arith) h.invariant.1

pub loop-j-init : goal.loop-j-init
loop-j-init c = (omega arith, summed_none _ _)
