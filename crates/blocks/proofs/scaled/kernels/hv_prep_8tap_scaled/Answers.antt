use Rattle.blocks.proofs.Usual.{true, ◌≡◌, ◌∙◌, sym, ap, rules, ◌*◌, ◌-◌, arith, length, bits_of, up, lowest, numbers_of, back}
use Rattle.rows.proofs.Laws.Pixels.Values.{values-length}
use Rattle.blocks.specs.Refuse.{told, number_of, reason_of}
use Rattle.blocks.specs.Subpel.{subpel_ok}
use Rattle.blocks.specs.Scaled.{scaled_type_ok, scaled_tests}
use Rattle.blocks.specs.inner.Scaled.{scaled_plan}
use Rattle.blocks.specs.inner.Source.{top_down}
use Rattle.blocks.proofs.Laws.Calls.Refuse.{made, stays}
use Rattle.blocks.proofs.Laws.Scaled.Ready.{ScaledMet, scaled_ready, taps_met}
use Rattle.blocks.proofs.Laws.Scaled.Rule.{prep_planned}
use Rattle.blocks.proofs.scaled.kernels.hv_prep_8tap_scaled.Goals as goal
use Rattle.blocks.proofs.scaled.kernels.hv_prep_8tap_scaled.Goals.{After-check_scaled, In_ok-check_scaled, After-depth_numbers-d, After-scaled_plan-p}

number : (g : _) (c : After-check_scaled g) → let a = c.args in
    told c.check_scaled.result ≡ lowest (scaled_tests true (g.P.Sample.depth_ok a.depth) (scaled_type_ok a.filter_type) (subpel_ok (length a.subpel.now))
    (length a.tmp.now) a.tmp_stride (length a.src.now) a.src_off a.src_stride a.w a.h a.mx a.my a.dx a.dy)
unfolding subpel_ok
number g c =
    let f = c.ranges in rw (
      c.scaled_type_ok.ensures,
      c.depth_ok.ensures.is,
      back f.depth,
      back f.filter_type,
      back f.mx,
      back f.my,
      back f.dx,
      back f.dy,
    ) at c.check_scaled.ensures

met : (g : _) (c : In_ok-check_scaled g) → let a = c.args in
    ScaledMet true (g.P.Sample.depth_ok a.depth) (scaled_type_ok a.filter_type) (subpel_ok (length a.subpel.now))
    (length a.tmp.now) a.tmp_stride (length a.src.now) a.src_off a.src_stride a.w a.h a.mx a.my a.dx a.dy
met g c = scaled_ready (sym (number g c.before.before) ∙ ap told c.in_ok-check_scaled.was)

pub depth_numbers-d-requires : goal.depth_numbers-d-requires
depth_numbers-d-requires g c = rw (back c.ranges.depth) (met g (goal.at.depth_numbers-d-requires g c).In_ok-check_scaled).deep

pub overflow_mul-src_stride : goal.overflow_mul-src_stride
overflow_mul-src_stride g c = omega (arith, (met g (goal.at.overflow_mul-src_stride g c).In_ok-check_scaled).most)

pub overflow_sub-src_off : goal.overflow_sub-src_off
overflow_sub-src_off g c = (taps_met _ _ (met g (goal.at.overflow_sub-src_off g c).In_ok-check_scaled) 0).0

depth : (g : _) (c : After-depth_numbers-d g) → c.depth_numbers-d.result ≡ numbers_of (up c.args.depth)
depth g c = rw (back c.ranges.depth) at c.depth_numbers-d.ensures.is

plan : (g : _) (c : After-scaled_plan-p g) → let a = c.args in
    c.scaled_plan-p.result
    ≡ scaled_plan (top_down (a.src_off - 3 * a.src_stride) a.src_stride) a.mx a.my a.dx a.dy a.filter_type a.w a.h (bits_of (up a.depth))
plan g c =
    let f = c.ranges in rw (
      c.top_down-s.ensures,
      c.depth_numbers-d.ensures.is,
      back f.depth,
      back f.filter_type,
      back f.mx,
      back f.my,
      back f.dx,
      back f.dy,
    ) at c.scaled_plan-p.ensures

pub prep_8tap_scaled_rows-requires : goal.prep_8tap_scaled_rows-requires
unfolding scaled_plan
prep_8tap_scaled_rows-requires g c =
    let at = goal.at.prep_8tap_scaled_rows-requires g c in
    let m = met g at.In_ok-check_scaled in
    let d = rw (back c.ranges.depth) at c.depth_numbers-d.ensures in
    rw (plan g at.After-scaled_plan-p, depth g at.After-depth_numbers-d) (m.block, m.rows, (taps_met _ _ m _).1, d.bits, d.bias)

pub returns : goal.returns
returns g c =
    let a = c.args in let each = g.met.P.Pixel.each in
    let at = goal.at.returns g c in
    let m = met g at.In_ok-check_scaled in
    let new = rw (plan g at.After-scaled_plan-p, depth g at.After-depth_numbers-d) at c.prep_8tap_scaled_rows.ensures in (
      rw (values-length each a.src.now) (sym (ap told c.in_ok-check_scaled.was) ∙ number g at.After-check_scaled),
      new ∙ prep_planned _ _ _ _ _ _ _ _ _ _ _ _ (taps_met _ _ m 0).0 _ _ _ (omega (arith, m.rows, m.block)) ∙ made _ _,
    )

pub returns-in_err-check_scaled : goal.returns-in_err-check_scaled
returns-in_err-check_scaled g c =
    let a = c.args in let each = g.met.P.Pixel.each in let why = c.in_err-check_scaled.field-0.0 in
    let n = number g (goal.at.returns-in_err-check_scaled g c).After-check_scaled in
    let r : told c.from_residual.result ≡ number_of (reason_of why) = search rules in
    (rw (values-length each a.src.now) (r ∙ sym (ap told c.in_err-check_scaled.was) ∙ n), stays _ why _ _ r)
