use Rattle.blocks.proofs.Usual.{◌≡◌, ◌∙◌, sym, rules, length, up, lowest, numbers_of, back}
use Rattle.rows.proofs.Laws.Pixels.Values.{values-length}
use Rattle.blocks.specs.Refuse.{told, number_of, reason_of}
use Rattle.blocks.specs.Combine.{mask_tests}
use Rattle.blocks.proofs.Laws.Calls.Refuse.{made, stays}
use Rattle.blocks.proofs.Laws.Combine.Numbers.{numbers_given}
use Rattle.blocks.proofs.Laws.Combine.Ready.{mask_ready}
use Rattle.blocks.proofs.combine.hv_mask.Goals as goal
use Rattle.blocks.proofs.combine.hv_mask.Goals.{After-check_combine, After-depth_numbers-d}

number : (g : _) (c : After-check_combine g) → let a = c.args in
    let t1 = length a.tmp1.now in let t2 = length a.tmp2.now in
    told c.check_combine.result ≡ lowest (mask_tests (g.P.Sample.depth_ok a.depth) (length a.dst.now) a.dst_stride t1 t2 a.w a.h (length a.mask.now))
number g c = rw (c.depth_ok.ensures.is, c.holds_rows.ensures, back c.ranges.depth) at c.check_combine.ensures

depth : (g : _) (c : After-depth_numbers-d g) → c.depth_numbers-d.result ≡ numbers_of (up c.args.depth)
depth g c = rw (back c.ranges.depth) at c.depth_numbers-d.ensures.is

numbers : (g : _) (c : After-depth_numbers-d g) → let d = c.depth_numbers-d.result in let p = g.P.Pixel in
    p.bits_ok d.bits × p.bias_ok d.bias × p.max_ok d.max
numbers g c =
    let p = g.P.Pixel in let e = c.depth_numbers-d.ensures in
    numbers_given p.bits_ok p.bias_ok p.max_ok _ e.is e.bits e.bias e.max

pub depth_numbers-d-requires : goal.depth_numbers-d-requires
depth_numbers-d-requires g c =
    let n = rw c.in_ok-check_combine.was at (number g (goal.at.depth_numbers-d-requires g c).After-check_combine) in
    rw (back c.ranges.depth) (mask_ready (sym n)).0

pub mask_rows-requires : goal.mask_rows-requires
mask_rows-requires g c =
    let at = goal.at.mask_rows-requires g c in
    let p = (mask_ready (sym (rw c.in_ok-check_combine.was at (number g at.After-check_combine)))).1 in
    let n = numbers g at.After-depth_numbers-d in
    (p.0, p.1, p.2, p.3, p.4.fits, n.0, n.1, n.2)

pub returns : goal.returns
returns g c =
    let at = goal.at.returns g c in
    let n = rw c.in_ok-check_combine.was at (number g at.After-check_combine) in
    let new = rw (depth g at.After-depth_numbers-d) at c.mask_rows.ensures in
    (rw (values-length g.met.P.Pixel.each c.args.dst.now) n, new ∙ made _ _)

pub returns-in_err-check_combine : goal.returns-in_err-check_combine
returns-in_err-check_combine g c =
    let n = rw c.in_err-check_combine.was at (number g (goal.at.returns-in_err-check_combine g c).After-check_combine) in
    let r : told c.from_residual.result ≡ number_of (reason_of c.in_err-check_combine.field-0.0) = search rules in
    (rw (values-length g.met.P.Pixel.each c.args.dst.now) (r ∙ n), stays _ c.in_err-check_combine.field-0.0 _ _ r)
