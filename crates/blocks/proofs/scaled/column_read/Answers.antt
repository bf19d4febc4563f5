use Rattle.blocks.proofs.Usual.{◌≡◌, sym, min, arith}
use Rattle.rows.specs.Scaled.{sixteenth}
use Rattle.blocks.specs.Scaled.{column_read}
use Rattle.blocks.proofs.Laws.Scaled.Ready.{column_past}
use Rattle.blocks.proofs.scaled.column_read.Goals as goal
use Rattle.blocks.proofs.scaled.column_read.Goals.{then-f-eq0, else-f-eq0}

pub returns-then-sl-o : goal.returns-then-sl-o
returns-then-sl-o c = let a = c.args in sym (column_past a.taps a.sl a.o a.s a.h a.p (omega arith))

-- on is 1 where the column has a filter
pub returns-then-taps : goal.returns-then-taps
unfolding column_read
returns-then-taps c =
    let filtered : c.if-f-eq0.on ≡ min (sixteenth c.args.p) 1 =
    elim c.if-f-eq0.branch [ then-f-eq0 w ↦ omega arith | else-f-eq0 w ↦ omega arith ] in
    rw (c.reads_around.ensures, filtered, c.if-taps.true)

pub returns : goal.returns
unfolding column_read
returns c = rw (c.reads_around-2.ensures, c.if-taps.false)
