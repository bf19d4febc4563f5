use Rattle.blocks.proofs.Usual.{◌≡◌, ◌∙◌, sym, ℕ, length, w64, Tables, area_of, lent_of, told_back}
use Rattle.rows.proofs.Laws.Pixels.Values.{values-length}
use Rattle.blocks.specs.Order.{asked_by, order_number}
use Rattle.blocks.specs.inner.Order.{setting_of, lengths_of}
use Rattle.blocks.proofs.Laws.Calls.Told.{Told, passed}
use Rattle.blocks.proofs.Laws.Calls.Why.{refuses}
use Rattle.blocks.proofs.Laws.Window.Ready.{Accepted, accepted_small, accepted_ready}
use Rattle.blocks.proofs.Laws.Order.Run.{tables_of, refused-part, refused-scratch, order_accepted, fetched-part, fetched-scratch}
use Rattle.blocks.specs.declared.order.Order.{Order}
use Rattle.blocks.proofs.order.run.order_window.Goals as goal
use Rattle.blocks.proofs.order.run.order_window.Goals.{In_default, After-area_of-a}

-- the tests are met, of a setting of any depth and tables of the lengths that are handed
none : (g : _) (c : In_default g) (depth : ℕ) (t : Tables) → let a = c.args in let v = g.P.Pixel.values in
    lengths_of t ≡ a.t → order_number (setting_of a.deep depth a.lent (v a.plane.now) t) a.named a.o (length (v a.scratch.now)) a.dl a.dst_stride ≡ 0
none g c depth t long =
    let a = c.args in let each = g.met.P.Pixel.each in
    rw (values-length each a.scratch.now) (sym (c.in_default.ensures depth (g.P.Pixel.values a.plane.now) t (values-length each a.plane.now) long))

accepted : (g : _) (c : In_default g) → let a = c.args in let v = g.P.Pixel.values in
    Accepted (lent_of a.lent (v a.plane.now)) (asked_by a.o) (length (v a.scratch.now))
accepted g c =
    let a = c.args in let (t, long) = tables_of a.t in
    order_accepted (setting_of a.deep 0 a.lent (g.P.Pixel.values a.plane.now) t) a.named a.o (g.P.Pixel.values a.scratch.now) a.dl a.dst_stride
    (none g c 0 t long)

-- the order's place, as it is passed on
column : (o : Order) {A B : Type 0} → Told w64 o.x A B → passed w64 o.x ≡ o.x
column o g = told_back w64 g

row : (o : Order) {A B C : Type 0} → Told w64 o.x A (Told w64 o.y B C) → passed w64 o.y ≡ o.y
row o g = told_back w64 g.1

area-is : (g : _) (c : After-area_of-a g) → let a = c.args in
    c.area_of-a.result ≡ area_of (lent_of a.lent (g.P.Pixel.values a.plane.now)) (asked_by a.o)
area-is g c =
    let o = c.args.o in let told = c.struct_told-2-1.given in
    rw (c.kind_number-n.ensures, column o told, row o told) at (c.area_of-a.ensures (g.P.Pixel.values c.args.plane.now) 0)

pub area_of-a-requires : goal.area_of-a-requires
area_of-a-requires g c =
    let o = c.args.o in let told = c.type_inv.o in
    let (w, h, x, y) = accepted_small (accepted g (goal.at.area_of-a-requires g c).In_default) in
    (w, h, rw (column o told) x, rw (row o told) y)

pub fetch-requires : goal.fetch-requires
fetch-requires g c =
    let at = goal.at.fetch-requires g c in let each = g.met.P.Pixel.each in
    let ready = accepted_ready (accepted g at.In_default) (area-is g at.After-area_of-a) in
    rw (values-length each c.args.plane.now, values-length each c.args.scratch.now) at ready

pub returns-in-Err : goal.returns-in-Err
returns-in-Err g c =
    let a = c.args in let v = g.P.Pixel.values in let each = g.met.P.Pixel.each in
    let p = lent_of a.lent (v a.plane.now) in
    let n = c.number.ensures in
    let other = refuses c.in-Err.why n in
    record {
      part = λ depth tables l.
          let e = c.in-Err.ensures depth (v a.plane.now) tables (values-length each a.plane.now) l in
          refused-part p a.o other c.no_part.ensures (rw (values-length each a.scratch.now) (n ∙ e));
      full = refused-scratch p a.o other c.no_part.ensures (v a.scratch.now);
    }

pub returns : goal.returns
returns g c =
    let a = c.args in let v = g.P.Pixel.values in
    let at = goal.at.returns g c in
    let tried = at.In_default in
    let is = area-is g at.After-area_of-a in
    let (here, full) = rw c.mode_of-mode.ensures at c.fetch.ensures in
    record {
      part = λ depth tables l. fetched-part (setting_of a.deep depth a.lent (v a.plane.now) tables) _ _ (v a.scratch.now) _ _ (none g tried depth tables l) is here;
      full = fetched-scratch _ _ _ (accepted g tried) is here full;
    }
