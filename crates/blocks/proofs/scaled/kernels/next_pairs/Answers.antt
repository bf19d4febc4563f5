use Rattle.blocks.proofs.Usual.{◌≡◌, ◌∙◌, ◌*◌, ◌+◌, ◌%◌, arith, pos, length, span}
use Rattle.rows.proofs.Laws.Blocks.Places.{span-length}
use Rattle.blocks.proofs.Laws.Loops.Stands.{StoodRow, stood_row}
use Rattle.blocks.proofs.Laws.Scaled.Pairs.{two_more, tabled_line}
use Rattle.blocks.proofs.scaled.kernels.next_pairs.Goals as goal
use Rattle.blocks.proofs.scaled.kernels.next_pairs.Goals.{In-loop-k}

-- in a turn, the row is within the source
row : (g : _) (c : In-loop-k g) → let a = c.args in StoodRow (length a.src.now) a.p.stand 1 c.loop-k.k
row g c = stood_row c.loop-k.k c.requires.3.rows c.loop-k-test.true

-- and how long it is
long : (g : _) (c : In-loop-k g) → let q = c.loop-k.k % 2 * 64 in let w = c.args.w in
    length (span c.loop-k.rows q (q + w)) ≡ w
long g c = let q = c.loop-k.k % 2 * 64 in span-length (pos 0) c.loop-k.rows q (q + c.args.w) (omega (arith, c.requires.3)) ∙ omega arith

pub loop-k-preserved : goal.loop-k-preserved
loop-k-preserved g c =
    let i = c.loop-k.invariant in let p = c.requires in
    two_more i.1 p.3.w64 i.0 _
    (rw c.row_first-o.ensures at c.scaled_bilin_row.ensures
    ∙ tabled_line p.3 p.5 (g.P.Pixel.values c.args.src.now) c.loop-k.k _ (omega (arith, long g (goal.at.loop-k-preserved g c).In-loop-k)))
