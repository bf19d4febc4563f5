use Rattle.rows.proofs.Usual.{◌-◌, pos, length, Upto}
use Rattle.rows.specs.inner.Scaled.{pair_mid}
use Rattle.rows.proofs.bytes.pairs.scaled_bilin_few.Given as goal

abbrev pub invariant-loop-i : goal.invariant-loop-i
invariant-loop-i l = Upto (pos 0) (pair_mid l.src l.pixels l.fractions 0) (length l.initial.mid) l.i l.mid

abbrev pub decreases-loop-i : goal.decreases-loop-i
decreases-loop-i l = l.w - l.i
