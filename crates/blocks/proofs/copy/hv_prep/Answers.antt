use Rattle.blocks.proofs.Usual.{◌≡◌, ◌∙◌, sym, rules, numbers_of, up, back}
use Rattle.rows.specs.Copy.{prep}
use Rattle.rows.proofs.Laws.Pixels.Values.{values-length}
use Rattle.blocks.specs.Refuse.{told, number_of, reason_of}
use Rattle.blocks.proofs.Laws.Calls.Refuse.{made, stays}
use Rattle.blocks.proofs.Laws.Loops.Stands.{filled_down}
use Rattle.blocks.proofs.Laws.Copy.Ready.{prep_ready}
use Rattle.blocks.proofs.copy.hv_prep.Goals as goal
use Rattle.blocks.proofs.copy.hv_prep.Goals.{After-depth_ok, After-depth_numbers-d}

deep : (g : _) (c : After-depth_ok g) → c.depth_ok.result ≡ g.P.Sample.depth_ok c.args.depth
deep g c = rw (back c.ranges.depth) at c.depth_ok.ensures.is

depth : (g : _) (c : After-depth_numbers-d g) → c.depth_numbers-d.result ≡ numbers_of (up c.args.depth)
depth g c = rw (back c.ranges.depth) at c.depth_numbers-d.ensures.is

pub depth_numbers-d-requires : goal.depth_numbers-d-requires
depth_numbers-d-requires g c =
    rw (back c.ranges.depth, sym (deep g (goal.at.depth_numbers-d-requires g c).After-depth_ok)) (prep_ready (sym c.in_ok-check_prep.ensures)).0

pub prep_rows-requires : goal.prep_rows-requires
prep_rows-requires g c =
    let at = goal.at.prep_rows-requires g c in
    let p = (prep_ready (sym c.in_ok-check_prep.ensures)).1 in
    let bits = rw (back c.ranges.depth) at c.depth_numbers-d.ensures.bits in
    let bias = rw (back c.ranges.depth) at c.depth_numbers-d.ensures.bias in
    rw (depth g at.After-depth_numbers-d, c.top_down-s.ensures) (p.0, p.1, p.2, bits, bias)

pub returns : goal.returns
returns g c =
    let a = c.args in let src = g.P.Pixel.values a.src.now in
    let at = goal.at.returns g c in
    let new = rw (depth g at.After-depth_numbers-d, c.top_down-s.ensures) at c.prep_rows.ensures in (
      rw (values-length g.met.P.Pixel.each a.src.now, sym (deep g at.After-depth_ok)) c.in_ok-check_prep.ensures,
      filled_down (prep _ _) a.tmp.now a.tmp_stride a.w a.h src a.src_stride new ∙ made _ _,
    )

pub returns-in_err-check_prep : goal.returns-in_err-check_prep
returns-in_err-check_prep g c =
    let d = deep g (goal.at.returns-in_err-check_prep g c).After-depth_ok in
    let r : told c.from_residual.result ≡ number_of (reason_of c.in_err-check_prep.field-0.0) = search rules in
    (rw (values-length g.met.P.Pixel.each c.args.src.now, sym d) (r ∙ c.in_err-check_prep.ensures), stays _ c.in_err-check_prep.field-0.0 _ _ r)
