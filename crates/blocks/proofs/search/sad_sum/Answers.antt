use Rattle.blocks.proofs.Usual.{◌*◌, arith, length}
use Rattle.rows.proofs.Laws.Numbers.Added.{added_none, added_more, added_all}
use Rattle.blocks.proofs.Laws.Loops.Stands.{StoodRow}
use Rattle.blocks.proofs.Laws.Search.Ready.{rows_of, row-apart, sad_shifted}
use Rattle.blocks.proofs.search.sad_sum.Goals as goal
use Rattle.blocks.proofs.search.sad_sum.Goals.{In-loop-r}

-- in a turn, row 2 r is within both blocks
row : (g : _) (c : In-loop-r g) → let a = c.args in let y = 2 * c.loop-r.r in
    StoodRow (length a.p0.now) a.s0 a.w y × StoodRow (length a.p1.now) a.s1 a.w y
row g c = rows_of (2 * c.loop-r.r) c.requires.0 (omega arith)

pub loop-r-init : goal.loop-r-init
loop-r-init g c = added_none _ _ _

pub loop-r-preserved : goal.loop-r-preserved
loop-r-preserved g c =
    let a = c.args in let v = g.P.Pixel.values in
    let e = row-apart (v a.p0.now) a.s0 (v a.p1.now) a.s1 a.w (2 * c.loop-r.r) c.row_first-o0.ensures c.row_first-o1.ensures
    c.sad_row-s.ensures.0 in
    added_more c.loop-r.invariant c.loop-r-test.true e (omega (arith, c.requires.0))

pub sad_row-s-requires : goal.sad_row-s-requires
sad_row-s-requires g c =
    let r = row g (goal.at.sad_row-s-requires g c).In-loop-r in
    omega (arith, r.0, r.1, c.row_first-o0.ensures, c.row_first-o1.ensures, c.requires.0)

pub returns : goal.returns
returns g c =
    let e = added_all c.loop-r.invariant (omega arith) in sad_shifted c.args.depth _ _ _ _ (e.0, omega (arith, e.1, c.requires.0))
