use Rattle.blocks.proofs.Usual.{◌∙◌, sym, w32, w64, up, Tables, kind_of}
use Rattle.rows.proofs.Laws.Pixels.Values.{values-length}
use Rattle.blocks.proofs.Laws.Calls.Told.{passed}
use Rattle.blocks.proofs.Laws.Order.Called.{called_deep, called_part, called_rows, SameCall, passed_call, put_left, put_made}
use Rattle.blocks.proofs.order.hv_order_put.Goals as goal
use Rattle.blocks.proofs.order.hv_order_put.Goals.{After-order_window-part}

abbrev tables : (g : _) → After-order_window-part g → Tables
tables g c = let a = c.args in record { subpel = a.subpel.now; ext = a.ext.now; warp = a.warp.now }

-- the call's numbers are passed on as they are
same : (g : _) (c : After-order_window-part g) → let a = c.args in
    SameCall c.depth_ok.result (g.P.Sample.depth_ok a.depth) (up (passed w32 a.depth)) (up a.depth) (passed w64 a.x) a.x (passed w64 a.y) a.y
    c.kind_of-k.result (kind_of a.kind a.mx a.my a.filter_type a.a a.b a.c a.d)
same g c =
    let f = c.ranges in
    passed_call g.P.Sample.depth_ok c.args.kind f.depth f.x f.y f.mx f.my f.filter_type f.a f.b f.c f.d c.depth_ok.ensures.is c.kind_of-k.ensures

pub depth_numbers-numbers-requires : goal.depth_numbers-numbers-requires
depth_numbers-numbers-requires g c = sym c.depth_ok.ensures.is ∙ called_deep c.order_window-part.ensures c.if-part-eq0.true

pub pick-src-requires : goal.pick-src-requires
pick-src-requires g c = called_part g.met.P.Pixel.each c.args.plane.now _ c.order_window-part.ensures c.if-part-eq0.true

pub put_kind-requires : goal.put_kind-requires
put_kind-requires g c =
    let r = called_rows g.met.P.Pixel.each c.args.plane.now c.order_window-part.new.scratch c.order_window-part.ensures c.if-part-eq0.true _ c.pick-src.ensures in
    let d = c.depth_numbers-numbers.ensures in rw d.is (r.0, r.1, d.bits, d.bias, d.max)

pub returns-then-part-eq0 : goal.returns-then-part-eq0
returns-then-part-eq0 g c =
    let a = c.args in
    let at = (goal.at.returns-then-part-eq0 g c).After-order_window-part in
    let new = rw c.depth_numbers-numbers.ensures.is at c.put_kind.ensures in
    put_made (same g at) (tables g at) c.order_window-part.ensures (g.P.Pixel.values a.dst.now) (sym (values-length g.met.P.Pixel.each a.dst.now)) c.if-part-eq0.true c.pick-src.ensures new

pub returns-else-part-eq0 : goal.returns-else-part-eq0
returns-else-part-eq0 g c =
    let a = c.args in
    let at = (goal.at.returns-else-part-eq0 g c).After-order_window-part in
    put_left (same g at) (tables g at) c.order_window-part.ensures (g.P.Pixel.values a.dst.now) (sym (values-length g.met.P.Pixel.each a.dst.now)) c.if-part-eq0.false
