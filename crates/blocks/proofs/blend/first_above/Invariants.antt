use Rattle.blocks.proofs.Usual.{◌≡◌, ◌*◌}
use Rattle.std.specs.Prelude.{None}
use Rattle.rows.specs.inner.Combine.{AtMost}
use Rattle.blocks.proofs.blend.first_above.Given as goal

-- between rows, none is found, and the values of all before row `row` are at most 64
abbrev pub invariant-search : goal.invariant-search
invariant-search l = (l.first ≡ None) × AtMost 64 l.mask 0 (l.row * l.w)

-- in a row, none is found, and its values before column col are
abbrev pub invariant-loop-col : goal.invariant-loop-col
invariant-loop-col l = (l.first ≡ None) × AtMost 64 l.mask (l.row * l.w) l.col
