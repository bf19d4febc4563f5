use Rattle.blocks.proofs.Usual.{List, ◌≡◌, ◌∙◌, sym, ap, ℕ, arith, length, up, lowest, row_at, lent_of, back, done}
use Rattle.blocks.specs.Window.{row_tests}
use Rattle.blocks.proofs.Laws.Calls.Why.{refuses}
use Rattle.blocks.proofs.Laws.Window.Ready.{plane_of_lem, no_part_of}
use Rattle.blocks.proofs.Laws.Window.Rows.{row-there}
use Rattle.blocks.proofs.plane_row.row_at.Goals as goal
use Rattle.blocks.proofs.plane_row.row_at.Goals.{In_default, After-up64}

pub returns-in-Err : goal.returns-in-Err
unfolding row_at
returns-in-Err c plane l =
    let n = c.number.ensures in
    no_part_of _ (n ∙ (rw (back c.ranges.row) at (c.in-Err.ensures plane l))) (refuses c.in-Err.why n) c.no_part.ensures

-- the tests are met, of every plane of as many places
met : (c : In_default) (plane : List ℕ) → let a = c.args in length plane ≡ a.pl → lowest (row_tests (lent_of a.lent plane) a.row) ≡ 0
met c plane l = sym (rw (back c.ranges.row) at (c.in_default.ensures plane l))

row_is : (c : After-up64) → c.up64.result ≡ up c.args.row
row_is c = c.up64.ensures ∙ ap up (back c.ranges.row)

pub overflow_mul-place : goal.overflow_mul-place
overflow_mul-place c =
    let a = c.args in
    let (some, l) = plane_of_lem a.pl in
    rw (row_is c) (omega (arith, l, row-there (lent_of a.lent some) a.row (met (goal.at.overflow_mul-place c).In_default some l)))

pub returns : goal.returns
unfolding row_at
returns c plane l =
    let at = goal.at.returns c in
    rw (row_is at.After-up64, c.plane_w-len.ensures) (sym (done _ _ _ (met at.In_default plane l)))
