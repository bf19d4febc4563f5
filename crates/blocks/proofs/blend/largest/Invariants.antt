use Rattle.rows.specs.inner.Combine.{AtMost}
use Rattle.blocks.proofs.blend.largest.Given as goal

abbrev pub invariant-loop-i : goal.invariant-loop-i
invariant-loop-i l = AtMost l.m l.mask l.q l.i
