use Rattle.blocks.proofs.Usual.{◌≡◌, ◌∙◌, sym, rules, length, lowest, numbers_of, up, back}
use Rattle.rows.proofs.Laws.Pixels.Values.{values-length}
use Rattle.blocks.specs.Refuse.{told, number_of, reason_of}
use Rattle.blocks.specs.Bilinear.{bilin_tests}
use Rattle.blocks.proofs.Laws.Bilinear.Ready.{bilin_ready}
use Rattle.blocks.proofs.Laws.Calls.Refuse.{made, stays}
use Rattle.blocks.proofs.Laws.Loops.Stands.{around-down}
use Rattle.blocks.proofs.bilinear.hv_put_bilin.Goals as goal
use Rattle.blocks.proofs.bilinear.hv_put_bilin.Goals.{After-check_bilin, After-depth_numbers-d}

number : (g : _) (c : After-check_bilin g) → let a = c.args in
    told c.check_bilin.result
    ≡ lowest (bilin_tests (g.P.Sample.depth_ok a.depth) (length a.dst.now) a.dst_stride (length a.src.now) a.src_stride a.w a.h a.mx a.my)
number g c = rw (c.depth_ok.ensures.is, back c.ranges.depth, back c.ranges.mx, back c.ranges.my) at c.check_bilin.ensures

depth : (g : _) (c : After-depth_numbers-d g) → c.depth_numbers-d.result ≡ numbers_of (up c.args.depth)
depth g c = rw (back c.ranges.depth) at c.depth_numbers-d.ensures.is

pub depth_numbers-d-requires : goal.depth_numbers-d-requires
depth_numbers-d-requires g c =
    let n = rw c.in_ok-check_bilin.was at (number g (goal.at.depth_numbers-d-requires g c).After-check_bilin) in
    rw (back c.ranges.depth) (bilin_ready _ _ (sym n)).0

pub put_bilin_rows-requires : goal.put_bilin_rows-requires
put_bilin_rows-requires g c =
    let at = goal.at.put_bilin_rows-requires g c in let f = c.ranges in
    let p = (bilin_ready _ _ (sym (rw c.in_ok-check_bilin.was at (number g at.After-check_bilin)))).1 in
    let bits = rw (back f.depth) at c.depth_numbers-d.ensures.bits in
    let max = rw (back f.depth) at c.depth_numbers-d.ensures.max in
    rw (depth g at.After-depth_numbers-d, c.top_down-s.ensures, c.up32-f.ensures, c.up32-g.ensures, back f.mx, back f.my) (p, bits, max)

pub returns : goal.returns
returns g c =
    let a = c.args in let f = c.ranges in let v = g.P.Pixel.values in let each = g.met.P.Pixel.each in
    let at = goal.at.returns g c in
    let n = rw c.in_ok-check_bilin.was at (number g at.After-check_bilin) in
    let new =
    rw (depth g at.After-depth_numbers-d, c.top_down-s.ensures, around-down 0 (v a.src.now) 0 a.src_stride, c.up32-f.ensures, c.up32-g.ensures, back f.mx, back f.my)
    at c.put_bilin_rows.ensures in
    (rw (values-length each a.dst.now, values-length each a.src.now) n, new ∙ made _ _)

pub returns-in_err-check_bilin : goal.returns-in_err-check_bilin
returns-in_err-check_bilin g c =
    let a = c.args in let each = g.met.P.Pixel.each in
    let why = c.in_err-check_bilin.field-0.0 in
    let n = rw c.in_err-check_bilin.was at (number g (goal.at.returns-in_err-check_bilin g c).After-check_bilin) in
    let r : told c.from_residual.result ≡ number_of (reason_of why) = search rules in
    (rw (values-length each a.dst.now, values-length each a.src.now) (r ∙ n), stays _ why _ _ r)
