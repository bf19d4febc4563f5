use Rattle.rows.proofs.Usual.{pos, length, Upto}
use Rattle.rows.specs.inner.Scaled.{pair_mid}
use Rattle.rows.proofs.words.pairs.scaled_bilin_by.Given as goal

abbrev pub invariant-loop-i : goal.invariant-loop-i
invariant-loop-i l = Upto (pos 0) (pair_mid l.src l.pixels l.fractions l.n) (length l.initial.mid) l.i l.mid
