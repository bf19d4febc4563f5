use Rattle.blocks.proofs.Usual.{◌≡◌, ◌∙◌, sym, rules}
use Rattle.rows.specs.Copy.{put}
use Rattle.rows.proofs.Laws.Pixels.Values.{values-length}
use Rattle.blocks.specs.Refuse.{told, number_of, reason_of}
use Rattle.blocks.proofs.Laws.Calls.Refuse.{made, stays}
use Rattle.blocks.proofs.Laws.Loops.Stands.{filled_down}
use Rattle.blocks.proofs.Laws.Copy.Ready.{put_ready}
use Rattle.blocks.proofs.copy.hv_put.Goals as goal

pub put_rows-requires : goal.put_rows-requires
put_rows-requires g c = rw c.top_down-s.ensures (put_ready (sym c.in_ok-check_put.ensures))

pub returns : goal.returns
returns g c =
    let a = c.args in let v = g.P.Pixel.values in let each = g.met.P.Pixel.each in
    let new = rw c.top_down-s.ensures at c.put_rows.ensures in (
      rw (values-length each a.dst.now, values-length each a.src.now) c.in_ok-check_put.ensures,
      filled_down put (v a.dst.now) a.dst_stride a.w a.h (v a.src.now) a.src_stride new ∙ made _ _,
    )

pub returns-in_err-check_put : goal.returns-in_err-check_put
returns-in_err-check_put g c =
    let a = c.args in let each = g.met.P.Pixel.each in
    let r : told c.from_residual.result ≡ number_of (reason_of c.in_err-check_put.field-0.0) = search rules in
    (rw (values-length each a.dst.now, values-length each a.src.now) (r ∙ c.in_err-check_put.ensures), stays _ c.in_err-check_put.field-0.0 _ _ r)
