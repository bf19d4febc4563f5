use Rattle.blocks.proofs.Usual.{sym, ◌*◌, ◌+◌, ◌-◌, arith, le-ltb, leb, reads}
use Rattle.rows.proofs.Laws.Blocks.Fill.{and_false}
use Rattle.blocks.proofs.Laws.Warp.Corners.{same_lt}
use Rattle.blocks.proofs.warp.margins_held.Goals as goal

pub returns-then-o-sl : goal.returns-then-o-sl
unfolding reads
returns-then-o-sl c =
    let a = c.args in
    rw (same_lt (11 * a.s + 11) (a.sl - a.o) (a.o + 11 * a.s + 11) a.sl (λ h. omega arith) (λ h. omega arith))

pub returns-else-o-sl : goal.returns-else-o-sl
unfolding reads
returns-else-o-sl c =
    let a = c.args in
    rw (le-ltb (a.o + 11 * a.s + 11) a.sl (omega arith)) (sym (and_false (leb (3 * a.s + 3) a.o)))
