use Rattle.rows.proofs.Usual.{◌+◌, ◌*◌, ◌≤◌, arith, w32, w8, at, px, back, fit, steps-le, summed_none}
use Rattle.rows.proofs.Usual.{summed_more}
use Rattle.rows.proofs.Laws.Filters.Centred.{centred_whole}
use Rattle.rows.proofs.words.taps.taps.Goals as goal
use Rattle.rows.proofs.words.taps.taps.Goals.{In-loop-j}

-- place j is within src
place : (c : In-loop-j) → c.loop-j.j * c.args.step ≤ 7 * c.args.step
place c = steps-le c.loop-j.j c.args.step c.loop-j-test.true

pub loop-j-preserved : goal.loop-j-preserved
loop-j-preserved c =
    let ff = back (fit w8 {z = at c.args.f.now c.loop-j.j} c.tap_centred-arg-1.given) in
    (omega arith, rw (back (fit w32 c.tap_centred-s.type_inv)) (summed_more c.loop-j.invariant.1 (rw ff at c.tap_centred-s.ensures)))

pub returns : goal.returns
returns c =
    let a = c.args in
    centred_whole a.f.now (λ t. px a.src.now (a.o + t * a.step)) c.taps_alone.result c.loop-j.invariant.0 (omega arith) c.loop-j.invariant.1 c.taps_alone.ensures

pub loop-j-init : goal.loop-j-init
loop-j-init c = (omega arith, summed_none _ _)
