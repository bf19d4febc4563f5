use Rattle.rows.proofs.Usual.{◌*◌, min, pos, length, Upto}
use Rattle.rows.specs.inner.Scaled.{pair_mid}
use Rattle.rows.proofs.bytes.pairs.scaled_bilin_eights.Given as goal

abbrev pub invariant-loop-k : goal.invariant-loop-k
invariant-loop-k l = Upto (pos 0) (pair_mid l.src l.pixels l.fractions 0) (length l.initial.mid) (min (8 * l.k) l.w) l.mid
