use Rattle.rows.proofs.Usual.{arith, pos, ◌-ℤ◌, w32, w16, SFits, back, backn}
use Rattle.rows.proofs.Laws.Numbers.Signed.{wide16}
use Rattle.rows.proofs.Laws.Filters.Centred.{centred_fits}
use Rattle.rows.proofs.words.taps.tap_centred.Goals as goal
use Rattle.rows.proofs.words.taps.tap_centred.Goals.{Start}

short : (s : Start) → SFits w16 (pos s.args.x -ℤ pos 32768)
short s = centred_fits s.args.x (omega arith)

pub returns : goal.returns
returns c =
    let s = (goal.at.returns c).Start in
    let fr : SFits w32 c.tap_i16.result = omega arith in
    rw (back fr)
    (rw (back c.ranges.acc, back c.ranges.f, backn w32 c.args.x (omega arith), back (wide16 (short s)), back (short s)) at c.tap_i16.ensures)
