use Rattle.blocks.proofs.Usual.{◌≡◌, ◌∙◌, sym, ap, rules, length, lowest, back}
use Rattle.rows.proofs.Laws.Pixels.Values.{values-length}
use Rattle.blocks.specs.Refuse.{told, number_of, reason_of}
use Rattle.blocks.specs.Search.{sads_tests}
use Rattle.blocks.proofs.Laws.Calls.Refuse.{stays}
use Rattle.blocks.proofs.Laws.Search.Ready.{sads_ready, refine_ready, refine-down, refine-done}
use Rattle.blocks.proofs.search.hv_sad_refine_mv.Goals as goal
use Rattle.blocks.proofs.search.hv_sad_refine_mv.Goals.{After-check_sads}

-- the tests speak of the pixels' numbers
number : (g : _) (c : After-check_sads g) → let a = c.args in let v = g.P.Pixel.values in
    told c.check_sads.result
    ≡ lowest (sads_tests 8 (g.P.Sample.depth_ok a.depth) (length (v a.p0.now)) a.p0_stride (length (v a.p1.now)) a.p1_stride a.w a.h)
number g c =
    let a = c.args in let each = g.met.P.Pixel.each in
    rw (values-length each a.p0.now, values-length each a.p1.now) (rw (c.depth_ok.ensures.is, back c.ranges.depth) at c.check_sads.ensures)

pub refine-o-requires : goal.refine-o-requires
refine-o-requires g c =
    let z = sym c.in_ok-check_sads.ensures in
    (rw (c.top_down-s0.ensures, c.top_down-s1.ensures) (refine_ready _ z), rw c.up32.ensures (c.depth_ok.ensures.deep (sads_ready 8 z).3))

pub returns : goal.returns
returns g c =
    let a = c.args in let v = g.P.Pixel.values in
    let n = number g (goal.at.returns g c).After-check_sads in
    let new =
    refine-down _ _ (v a.p0.now) a.p0_stride (v a.p1.now) a.p1_stride a.w a.h
    (rw (c.top_down-s0.ensures, c.top_down-s1.ensures) at c.refine-o.ensures) in (
      sym (ap told c.in_ok-check_sads.was) ∙ n,
      refine-done (search rules) (search rules) (rw (c.up32.ensures, back c.ranges.depth) at new),
    )

pub returns-in_err-check_sads : goal.returns-in_err-check_sads
returns-in_err-check_sads g c =
    let why = c.in_err-check_sads.field-0.0 in
    let n = number g (goal.at.returns-in_err-check_sads g c).After-check_sads in
    let r : told c.from_residual.result ≡ number_of (reason_of why) = search rules in
    (r ∙ sym (ap told c.in_err-check_sads.was) ∙ n, stays _ why _ _ r)
