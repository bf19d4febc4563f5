use Rattle.blocks.proofs.Usual.{◌≡◌, ◌∙◌, sym, ap, rules, length, lowest, back}
use Rattle.rows.proofs.Laws.Pixels.Values.{values-length}
use Rattle.blocks.specs.Refuse.{told, number_of, reason_of}
use Rattle.blocks.specs.Search.{sads_tests}
use Rattle.blocks.proofs.Laws.Calls.Refuse.{stays}
use Rattle.blocks.proofs.Laws.Search.Ready.{sads_ready, sad_blocks, sad-done}
use Rattle.blocks.proofs.search.hv_sad_nxn.Goals as goal
use Rattle.blocks.proofs.search.hv_sad_nxn.Goals.{After-check_sads}

-- the tests speak of the pixels' numbers
number : (g : _) (c : After-check_sads g) → let a = c.args in let v = g.P.Pixel.values in
    told c.check_sads.result
    ≡ lowest (sads_tests 0 (g.P.Sample.depth_ok a.depth) (length (v a.p0.now)) a.p0_stride (length (v a.p1.now)) a.p1_stride a.w a.h)
number g c =
    let a = c.args in let each = g.met.P.Pixel.each in
    rw (values-length each a.p0.now, values-length each a.p1.now) (rw (c.depth_ok.ensures.is, back c.ranges.depth) at c.check_sads.ensures)

pub sad_sum-requires : goal.sad_sum-requires
sad_sum-requires g c =
    let r = sads_ready 0 (sym c.in_ok-check_sads.ensures) in
    (rw (c.top_down-s0.ensures, c.top_down-s1.ensures) (sad_blocks r.0 r.1 r.2), rw c.up32.ensures (c.depth_ok.ensures.deep r.3))

pub returns : goal.returns
returns g c =
    let a = c.args in let v = g.P.Pixel.values in
    let n = number g (goal.at.returns g c).After-check_sads in (
      sym (ap told c.in_ok-check_sads.was) ∙ n,
      rw (c.up32.ensures, back c.ranges.depth) at (sad-done c.up32.result (v a.p0.now) a.p0_stride (v a.p1.now) a.p1_stride a.w a.h
          (rw (c.top_down-s0.ensures, c.top_down-s1.ensures) at c.sad_sum.ensures)),
    )

pub returns-in_err-check_sads : goal.returns-in_err-check_sads
returns-in_err-check_sads g c =
    let why = c.in_err-check_sads.field-0.0 in
    let n = number g (goal.at.returns-in_err-check_sads g c).After-check_sads in
    let r : told c.from_residual.result ≡ number_of (reason_of why) = search rules in
    (r ∙ sym (ap told c.in_err-check_sads.was) ∙ n, stays _ why _ _ r)
