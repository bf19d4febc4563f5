use Rattle.blocks.proofs.Usual.{◌≡◌, subst, ◌%◌, arith, length, get_or}
use Rattle.blocks.specs.inner.Scaled.{line_of, LastEight}
use Rattle.blocks.proofs.Laws.Loops.Stands.{StoodRow, stood_row}
use Rattle.blocks.proofs.Laws.Scaled.Rows.{eight_order, eight_more}
use Rattle.blocks.proofs.scaled.kernels.next_rows.Goals as goal
use Rattle.blocks.proofs.scaled.kernels.next_rows.Goals.{In-loop-k, After-turned-order}

-- where the row comes in
newest : (g : _) (c : After-turned-order g) → get_or c.turned-order.result 7 0 ≡ c.loop-k.k % 8
newest g c = (eight_order c.loop-k.invariant _ c.turned-order.ensures).1

row : (g : _) (c : In-loop-k g) → let a = c.args in StoodRow (length a.src.now) a.p.stand 1 c.loop-k.k
row g c = stood_row c.loop-k.k c.requires.2.rows c.loop-k-test.true

pub scaled_row-requires : goal.scaled_row-requires
scaled_row-requires g c =
    let f = c.requires.2 in
    record {
      rows_len = (
        c.loop-k.invariant.size,
        omega (arith, newest g (goal.at.scaled_row-requires g c).After-turned-order, f.w64),
        f.w64,
        f.table,
        f.wide,
        f.across,
        c.requires.3,
      );
      by_index = rw c.row_first-o.ensures (λ i b. f.fetched c.loop-k.k i c.loop-k-test.true b);
    }

pub loop-k-init : goal.loop-k-init
loop-k-init g c = c.requires.0

pub loop-k-preserved : goal.loop-k-preserved
unfolding line_of
loop-k-preserved g c = rw (c.scaled_row.ensures, c.row_first-o.ensures) (eight_more c.loop-k.invariant c.requires.2.w64 _ c.turned-order.ensures)

pub returns : goal.returns
returns g c =
    let l = c.loop-k in let a = c.args in
    subst (λ n. LastEight a.w (line_of (g.P.Pixel.values a.src.now) a.subpel.now a.p) n l.rows l.order) (omega arith) l.invariant

pub overflow_mul-q : goal.overflow_mul-q
overflow_mul-q g c = omega (arith, newest g c)

pub row_first-o-requires : goal.row_first-o-requires
row_first-o-requires g c = let r = row g (goal.at.row_first-o-requires g c).In-loop-k in (r.before, omega (arith, r))
