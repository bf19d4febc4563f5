use Rattle.blocks.proofs.Usual.{◌≡◌, ◌∙◌, ◌*◌, mul_comm, arith}
use Rattle.std.specs.Prelude.{None}
use native.Mathlib.Nat.{suc-mul}
use Rattle.rows.specs.inner.Combine.{AtMost}
use Rattle.blocks.proofs.Laws.Blend.Above.{at-most_wider, at-most_join, spot_found, spot_none}
use Rattle.blocks.proofs.blend.first_above.Goals as goal
use Rattle.blocks.proofs.blend.first_above.Goals.{Joined-above, then-above+else-loop-col-test, else-above}

-- after its columns, or where its largest value is at most 64, the row's values all are, and none is found
row_done : (c : Joined-above) → let a = c.args in (c.if-above.first ≡ None) × AtMost 64 a.mask.now (c.search.row * a.w) a.w
row_done c =
    let a = c.args in
    elim c.if-above.branch [
      | then-above+else-loop-col-test t ↦ (t.first-is ∙ t.loop-col.invariant.0, λ i b. t.loop-col.invariant.1 i (omega (arith, b, t.loop-col-test.false)))
      | else-above t ↦ (t.first-is ∙ c.search.invariant.0, at-most_wider c.largest-above.result a.mask.now 64 (c.search.row * a.w) a.w t.if-above.false c.largest-above.ensures)
    ]

pub search-preserved : goal.search-preserved
search-preserved c =
    let a = c.args in
    let n = c.search.row * a.w in
    let d = row_done c in
    (d.0, λ i b. at-most_join 64 a.mask.now n a.w c.search.invariant.1 d.1 i (omega (arith, suc-mul c.search.row a.w)))

pub returns-then-mask-row-gt64 : goal.returns-then-mask-row-gt64
returns-then-mask-row-gt64 c =
    let a = c.args in
    let m = at-most_join 64 a.mask.now (c.search.row * a.w) c.loop-col.col c.search.invariant.1 c.loop-col.invariant.1 in
    spot_found a.mask.now a.w a.h c.search.row c.loop-col.col m c.search-test.true c.loop-col-test.true c.if-mask-row-gt64.true

pub returns-after-search : goal.returns-after-search
returns-after-search c =
    let a = c.args in
    let i = c.search.invariant in
    let e : c.search.row ≡ a.h = omega arith in
    i.0 ∙ spot_none a.mask.now a.w a.h (rw (e, mul_comm a.h a.w) at i.1)
