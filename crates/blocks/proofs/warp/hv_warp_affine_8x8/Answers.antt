use Rattle.blocks.proofs.Usual.{◌≡◌, ◌∙◌, sym, rules, length, lowest, numbers_of, up, back}
use Rattle.rows.proofs.Laws.Pixels.Values.{values-length}
use Rattle.blocks.specs.Refuse.{told, number_of, reason_of}
use Rattle.blocks.specs.Warp.{warp_tests}
use Rattle.blocks.proofs.Laws.Calls.Refuse.{made, stays}
use Rattle.blocks.proofs.Laws.Loops.Stands.{around-down}
use Rattle.blocks.proofs.Laws.Warp.Ready.{warp_ready}
use Rattle.blocks.proofs.warp.hv_warp_affine_8x8.Goals as goal
use Rattle.blocks.proofs.warp.hv_warp_affine_8x8.Goals.{After-check_warp, After-depth_numbers}

number : (g : _) (c : After-check_warp g) → let a = c.args in
    told c.check_warp.result ≡ lowest (warp_tests (g.P.Sample.depth_ok a.depth) (length a.dst.now) a.dst_stride (length a.src.now) a.src_stride a.src_off
    a.a a.b a.c a.d a.mx a.my (length a.warp.now))
number g c =
    let f = c.ranges in
    rw (c.depth_ok.ensures.is, back f.depth, back f.mx, back f.my, back f.a, back f.b, back f.c, back f.d) at c.check_warp.ensures

depth : (g : _) (c : After-depth_numbers g) → c.depth_numbers.result ≡ numbers_of (up c.args.depth)
depth g c = rw (back c.ranges.depth) at c.depth_numbers.ensures.is

pub depth_numbers-requires : goal.depth_numbers-requires
depth_numbers-requires g c =
    let n = rw c.in_ok-check_warp.was at (number g (goal.at.depth_numbers-requires g c).After-check_warp) in
    rw (back c.ranges.depth) (warp_ready _ _ _ _ _ _ _ _ _ _ _ _ _ (sym n)).0

pub warp_put-requires : goal.warp_put-requires
warp_put-requires g c =
    let at = goal.at.warp_put-requires g c in let f = c.ranges in
    let p = (warp_ready _ _ _ _ _ _ _ _ _ _ _ _ _ (sym (rw c.in_ok-check_warp.was at (number g at.After-check_warp)))).1 in
    let bits = rw (back f.depth) at c.depth_numbers.ensures.bits in
    let max = rw (back f.depth) at c.depth_numbers.ensures.max in
    rw (depth g at.After-depth_numbers, c.top_down-s.ensures, back f.mx, back f.my, back f.a, back f.b, back f.c, back f.d) (p, bits, max)

pub returns : goal.returns
returns g c =
    let a = c.args in let f = c.ranges in let v = g.P.Pixel.values in let each = g.met.P.Pixel.each in
    let at = goal.at.returns g c in
    let n = rw c.in_ok-check_warp.was at (number g at.After-check_warp) in
    let new =
    rw (depth g at.After-depth_numbers, c.top_down-s.ensures, around-down 3 (v a.src.now) a.src_off a.src_stride, back f.mx, back f.my, back f.a, back f.b, back f.c, back f.d)
    at c.warp_put.ensures in
    (rw (values-length each a.dst.now, values-length each a.src.now) n, new ∙ made _ _)

pub returns-in_err-check_warp : goal.returns-in_err-check_warp
returns-in_err-check_warp g c =
    let a = c.args in let each = g.met.P.Pixel.each in
    let why = c.in_err-check_warp.field-0.0 in
    let n = rw c.in_err-check_warp.was at (number g (goal.at.returns-in_err-check_warp g c).After-check_warp) in
    let r : told c.from_residual.result ≡ number_of (reason_of why) = search rules in
    (rw (values-length each a.dst.now, values-length each a.src.now) (r ∙ n), stays _ why _ _ r)
