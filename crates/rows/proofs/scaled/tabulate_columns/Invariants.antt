use Rattle.rows.proofs.Usual.{◌≤◌, length, Upto}
use Rattle.rows.specs.Scaled.{position, pixel_of, sixteenth}
use Rattle.rows.proofs.scaled.tabulate_columns.Given as goal

abbrev pub invariant-loop-i : goal.invariant-loop-i
invariant-loop-i l = (l.i ≤ l.w)
    × (Upto 0 (λ x. pixel_of (position l.start l.step x)) (length l.initial.pixels) l.i l.pixels
    × Upto 0 (λ x. sixteenth (position l.start l.step x)) (length l.initial.fractions) l.i l.fractions)
