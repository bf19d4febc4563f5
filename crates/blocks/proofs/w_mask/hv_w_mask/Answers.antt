use Rattle.blocks.proofs.Usual.{◌≡◌, ◌∙◌, sym, ap, rules, length, up, lowest, numbers_of, back}
use Rattle.rows.proofs.Laws.Pixels.Values.{values-length}
use Rattle.blocks.specs.Refuse.{told, number_of, reason_of}
use Rattle.blocks.specs.WMask.{w_mask_tests}
use Rattle.blocks.proofs.Laws.Calls.Refuse.{made, stays}
use Rattle.blocks.proofs.Laws.Combine.Numbers.{numbers_given}
use Rattle.blocks.proofs.Laws.WMask.Ready.{w-mask_ready}
use Rattle.blocks.proofs.w_mask.hv_w_mask.Goals as goal
use Rattle.blocks.proofs.w_mask.hv_w_mask.Goals.{After-check_w_mask, After-depth_numbers-d, After-up32}

number : (g : _) (c : After-check_w_mask g) → let a = c.args in
    told c.check_w_mask.result ≡ lowest (w_mask_tests (g.P.Sample.depth_ok a.depth) (length a.dst.now) a.dst_stride (length a.tmp1.now) (length a.tmp2.now)
    a.w a.h (length a.mask.now) a.mask_stride a.sign a.ss_hor a.ss_ver)
number g c = simp (c.depth_ok.ensures.is, back c.ranges.depth, back c.ranges.sign) at c.check_w_mask.ensures

-- what depends on the depth; the sign, and the depth itself
deep : (g : _) (c : After-depth_numbers-d g) → c.depth_numbers-d.result ≡ numbers_of (up c.args.depth)
deep g c = rw (back c.ranges.depth) at c.depth_numbers-d.ensures.is

numbers : (g : _) (c : After-depth_numbers-d g) → let d = c.depth_numbers-d.result in let p = g.P.Pixel in
    p.bits_ok d.bits × p.bias_ok d.bias × p.max_ok d.max
numbers g c =
    let p = g.P.Pixel in let e = c.depth_numbers-d.ensures in
    numbers_given p.bits_ok p.bias_ok p.max_ok _ e.is e.bits e.bias e.max

sign : (g : _) (c : After-up32 g) → c.up32-s.result ≡ up c.args.sign
sign g c = c.up32-s.ensures ∙ ap up (back c.ranges.sign)

depth : (g : _) (c : After-up32 g) → c.up32.result ≡ up c.args.depth
depth g c = c.up32.ensures ∙ ap up (back c.ranges.depth)

pub depth_numbers-d-requires : goal.depth_numbers-d-requires
depth_numbers-d-requires g c =
    let n = rw c.in_ok-check_w_mask.was at (number g (goal.at.depth_numbers-d-requires g c).After-check_w_mask) in
    rw (back c.ranges.depth) (w-mask_ready c.args.sign _ _ (sym n)).0

pub w_mask_rows-requires : goal.w_mask_rows-requires
w_mask_rows-requires g c =
    let at = goal.at.w_mask_rows-requires g c in
    let p = w-mask_ready c.args.sign _ _ (sym (rw c.in_ok-check_w_mask.was at (number g at.After-check_w_mask))) in
    let n = numbers g at.After-depth_numbers-d in
    let there = (w-mask_ready _ _ _ (sym c.in_ok-check_w_mask.ensures)).0 in
    (p.1, p.2, p.3, rw (sign g at.After-up32) p.4, rw c.up32.ensures (c.depth_ok.ensures.deep there), n.0, n.1, n.2)

pub returns : goal.returns
returns g c =
    let at = goal.at.returns g c in
    let n = rw c.in_ok-check_w_mask.was at (number g at.After-check_w_mask) in
    let e = simp (deep g at.After-depth_numbers-d, depth g at.After-up32, sign g at.After-up32) at c.w_mask_rows.ensures in
    (rw (values-length g.met.P.Pixel.each c.args.dst.now) n, e.0 ∙ made _ _, e.1 ∙ made _ _)

pub returns-in_err-check_w_mask : goal.returns-in_err-check_w_mask
returns-in_err-check_w_mask g c =
    let n = rw c.in_err-check_w_mask.was at (number g (goal.at.returns-in_err-check_w_mask g c).After-check_w_mask) in
    let why = c.in_err-check_w_mask.field-0.0 in
    let r : told c.from_residual.result ≡ number_of (reason_of why) = search rules in
    (rw (values-length g.met.P.Pixel.each c.args.dst.now) (r ∙ n), stays _ why _ _ r, stays _ why _ _ r)
