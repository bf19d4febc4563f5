use Rattle.blocks.proofs.Usual.{◌∙◌, ap, ◌*◌, ◌+◌, fill, before}
use Rattle.rows.specs.Copy.{prep}
use Rattle.blocks.specs.Order.{prep_rule}
use Rattle.blocks.proofs.Laws.Loops.Stands.{around-down}
use Rattle.blocks.proofs.Laws.Order.Kinds.{subpel_ready, bilin_ready, warp_ready}
use Rattle.blocks.proofs.Laws.Order.Kinds.{bilin_passed, warp-size, from_window, no_margin}
use Rattle.blocks.proofs.order.kinds.prep_kind.Goals as goal

pub prep_8tap_rows-requires : goal.prep_8tap_rows-requires
prep_8tap_rows-requires g c =
    let p = c.requires in
    let r = subpel_ready p.0 p.1 c.in-Subpel.is in
    rw c.top_down-first-in-Subpel.ensures (r.0, r.1, r.2, p.2, p.3)

pub prep_bilin_rows-requires : goal.prep_bilin_rows-requires
prep_bilin_rows-requires g c =
    let p = c.requires in
    rw (c.top_down-first-in-Bilinear.ensures, c.up32-f.ensures, c.up32-g.ensures) (bilin_ready p.0 p.1 (bilin_passed c.in-Bilinear.is c.struct_told-in-Bilinear-1.given), p.2, p.3)

pub warp_prep-requires : goal.warp_prep-requires
warp_prep-requires g c =
    let p = c.requires in
    rw c.top_down-first-in-Warp.ensures (warp_ready p.0 p.1 c.in-Warp.is, p.2, p.3)

pub returns-in-Copy : goal.returns-in-Copy
unfolding prep_rule
returns-in-Copy g c =
    rw c.in-Copy.is (rw c.top_down-first.ensures at c.prep_rows.ensures ∙ ap (fill _ _ _ _) (from_window (prep _ _) _ _))

pub returns-in-Subpel : goal.returns-in-Subpel
unfolding prep_rule before
returns-in-Subpel g c =
    rw (c.in-Subpel.is, ← around-down 3 _ _ _) (rw c.top_down-first-in-Subpel.ensures at c.prep_8tap_rows.ensures)

pub returns-in-Bilinear : goal.returns-in-Bilinear
unfolding prep_rule before
returns-in-Bilinear g c =
    let r = c.args in
    let e = rw (c.top_down-first-in-Bilinear.ensures, around-down 0 (g.P.Pixel.values r.src.now) 0 r.l.src_stride, c.up32-f.ensures, c.up32-g.ensures) at c.prep_bilin_rows.ensures in
    rw (bilin_passed c.in-Bilinear.is c.struct_told-in-Bilinear-1.given, no_margin c.args.l.src_stride) e

pub returns-in-Warp : goal.returns-in-Warp
unfolding prep_rule before
returns-in-Warp g c =
    let e = c.in-Warp.is in let a = c.args in
    let z = warp-size c.requires.0 e in
    rw (z.0, z.1, e) (rw (c.top_down-first-in-Warp.ensures, around-down 3 (g.P.Pixel.values a.src.now) (3 * a.l.src_stride + 3) a.l.src_stride)
    at c.warp_prep.ensures)
