use Rattle.blocks.proofs.Usual.{◌≡◌, ◌∙◌, refl, sym, ap, ◌≤◌, ◌*◌, ◌+◌, ◌^◌, mul-le-mul_right, arith, up, window_at}
use Rattle.rows.proofs.Laws.Numbers.Signed.{abs_parts}
use Rattle.blocks.proofs.Laws.Calls.Told.{left_passed, top_passed}
use Rattle.blocks.proofs.Laws.Window.Ready.{own_at}
use Rattle.blocks.proofs.window.locate.Goals as goal
use Rattle.blocks.proofs.window.locate.Goals.{After-up64, After-up64-then-is_planes}

row_is : (c : After-up64) → c.up64.result ≡ up c.args.a.top
row_is c = c.up64.ensures ∙ ap up (top_passed c.args.a c.struct_told-1.given)

column-is : (c : After-up64-then-is_planes) → c.up64-then-is_planes.result ≡ up c.args.a.left
column-is c = c.up64-then-is_planes.ensures ∙ ap up (left_passed c.args.a c.struct_told-then-is_planes-1.given)

small : (c : After-up64) → c.up64.result * c.args.plane_stride ≤ (2 ^ 30 + 3) * c.args.plane_stride
small c =
    mul-le-mul_right {m = c.up64.result} {n = 2 ^ 30 + 3} c.args.plane_stride (omega (arith, row_is c, c.requires.0.top, abs_parts c.args.a.top))

pub returns-then-is_planes : goal.returns-then-is_planes
returns-then-is_planes c =
    own_at _ _ _ (sym c.is_planes.ensures ∙ c.if-is_planes.true) (row_is (goal.at.returns-then-is_planes c).After-up64) (column-is (goal.at.returns-then-is_planes c).After-up64-then-is_planes) c.part_len-len.ensures

pub returns : goal.returns
unfolding window_at
returns c = rw (sym c.is_planes.ensures ∙ c.if-is_planes.false, c.part_len-len-2.ensures) refl
