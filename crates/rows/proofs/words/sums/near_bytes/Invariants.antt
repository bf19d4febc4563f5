use Rattle.rows.proofs.Usual.{◌+◌, ◌*◌, px}
use Rattle.rows.specs.inner.Subpel.{byte_of}
use Rattle.rows.proofs.Laws.Filters.Near.{NearSum}
use Rattle.rows.proofs.words.sums.near_bytes.Given as goal

-- s is the sum of the first j taps
abbrev pub invariant-loop-j : goal.invariant-loop-j
invariant-loop-j l = NearSum l.f (λ k. byte_of l.high (px l.src (l.o + k * l.step))) l.j l.s
