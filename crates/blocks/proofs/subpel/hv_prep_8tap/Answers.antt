use Rattle.blocks.proofs.Usual.{◌≡◌, ◌∙◌, sym, rules, length, lowest, numbers_of, up, back}
use Rattle.rows.proofs.Laws.Pixels.Values.{values-length}
use Rattle.blocks.specs.Refuse.{told, number_of, reason_of}
use Rattle.blocks.specs.Subpel.{subpel_tests}
use Rattle.blocks.proofs.Laws.Calls.Refuse.{made, stays}
use Rattle.blocks.proofs.Laws.Loops.Stands.{around-down}
use Rattle.blocks.proofs.Laws.Subpel.Ready.{subpel_ready}
use Rattle.blocks.proofs.subpel.hv_prep_8tap.Goals as goal
use Rattle.blocks.proofs.subpel.hv_prep_8tap.Goals.{After-check_8tap, After-depth_numbers-d}

number : (g : _) (c : After-check_8tap g) → let a = c.args in
    told c.check_8tap.result ≡ lowest (subpel_tests (g.P.Sample.depth_ok a.depth) (length a.tmp.now) a.tmp_stride (length a.src.now)
    a.src_off a.src_stride a.w a.h a.mx a.my a.filter_type (length a.subpel.now) (length a.ext.now))
number g c =
    let f = c.ranges in
    rw (c.depth_ok.ensures.is, back f.depth, back f.mx, back f.my, back f.filter_type) at c.check_8tap.ensures

depth : (g : _) (c : After-depth_numbers-d g) → c.depth_numbers-d.result ≡ numbers_of (up c.args.depth)
depth g c = rw (back c.ranges.depth) at c.depth_numbers-d.ensures.is

pub depth_numbers-d-requires : goal.depth_numbers-d-requires
depth_numbers-d-requires g c =
    let n = rw c.in_ok-check_8tap.was at (number g (goal.at.depth_numbers-d-requires g c).After-check_8tap) in
    rw (back c.ranges.depth) (subpel_ready _ _ _ _ _ _ _ _ _ _ _ _ _ (sym n)).0

pub prep_8tap_rows-requires : goal.prep_8tap_rows-requires
prep_8tap_rows-requires g c =
    let f = c.ranges in
    let at = goal.at.prep_8tap_rows-requires g c in
    let r = subpel_ready _ _ _ _ _ _ _ _ _ _ _ _ _ (sym (rw c.in_ok-check_8tap.was at (number g at.After-check_8tap))) in
    let bits = rw (back f.depth) at c.depth_numbers-d.ensures.bits in
    let bias = rw (back f.depth) at c.depth_numbers-d.ensures.bias in
    rw (depth g at.After-depth_numbers-d, c.top_down-s.ensures, back f.mx, back f.my, back f.filter_type) (r.1, r.2, r.3, bits, bias)

pub returns : goal.returns
returns g c =
    let a = c.args in let f = c.ranges in let src = g.P.Pixel.values a.src.now in
    let at = goal.at.returns g c in
    let n = rw c.in_ok-check_8tap.was at (number g at.After-check_8tap) in
    let new = rw (depth g at.After-depth_numbers-d, c.top_down-s.ensures, back f.mx, back f.my, back f.filter_type) at c.prep_8tap_rows.ensures in
    (rw (values-length g.met.P.Pixel.each a.src.now) n, rw (around-down 3 src a.src_off a.src_stride) at new ∙ made _ _)

pub returns-in_err-check_8tap : goal.returns-in_err-check_8tap
returns-in_err-check_8tap g c =
    let why = c.in_err-check_8tap.field-0.0 in
    let n = rw c.in_err-check_8tap.was at (number g (goal.at.returns-in_err-check_8tap g c).After-check_8tap) in
    let r : told c.from_residual.result ≡ number_of (reason_of why) = search rules in
    (rw (values-length g.met.P.Pixel.each c.args.src.now) (r ∙ n), stays _ why _ _ r)
