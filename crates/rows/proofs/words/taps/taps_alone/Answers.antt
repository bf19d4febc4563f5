use Rattle.rows.proofs.Usual.{refl, arith, ◌+ℤ◌, w32, w8, SFits, to_z, at, back, fit, mag-add, summed_mag, summed_none, summed_more}
use Rattle.rows.proofs.Laws.Numbers.Signed.{back8}
use Rattle.rows.proofs.words.taps.taps_alone.Goals as goal
use Rattle.rows.proofs.words.taps.taps_alone.Goals.{After-s-1}

-- tap j
fits : (c : After-s-1) → SFits w8 (at c.args.f.now c.loop-j.j)
fits c = fit w8 c.s-1.given

-- and the sum with it
sum-fits : (c : After-s-1) → SFits w32 (to_z w32 c.loop-j.s-bits +ℤ at c.args.f.now c.loop-j.j)
sum-fits c =
    fit w32
    (omega (
      arith,
      c.s-1.given,
      mag-add (to_z w32 c.loop-j.s-bits) (at c.args.f.now c.loop-j.j),
      summed_mag c.loop-j.invariant.1,
    ))

pub loop-j-preserved : goal.loop-j-preserved
loop-j-preserved c =
    let h = c.loop-j in
    rw (back8 (fits c), back (sum-fits c)) (omega arith, summed_more h.invariant.1 (refl, omega (arith, c.s-1.given)))

pub loop-j-init : goal.loop-j-init
loop-j-init c = (omega arith, summed_none _ _)
