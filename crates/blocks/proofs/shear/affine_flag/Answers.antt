use Rattle.blocks.proofs.Usual.{true, Bool, false, ◌≡◌, refl, pos, nat_abs, w32, to_z}
use mathlib.Core.Bool.{cond}
use mir.Val.{bool_byte}
use Rattle.rows.specs.Shear.{affine_of}
use Rattle.rows.proofs.Laws.Numbers.Signed.{back16}
use Rattle.blocks.proofs.shear.affine_flag.Goals as goal
use Rattle.blocks.proofs.shear.affine_flag.Goals.{After-abs32, After-abs32-2, After-abs32-3, After-abs32-4}

flag : (b : Bool) → to_z w32 (bool_byte b) ≡ cond b (pos 1) (pos 0)
flag true = refl
flag false = refl

one : (c : After-abs32) → c.abs32.result ≡ nat_abs c.args.a
one c = rw (back16 c.ranges.a) at c.abs32.ensures

two : (c : After-abs32-2) → c.abs32-2.result ≡ nat_abs c.args.b
two c = rw (back16 c.ranges.b) at c.abs32-2.ensures

three : (c : After-abs32-3) → c.abs32-3.result ≡ nat_abs c.args.c
three c = rw (back16 c.ranges.c) at c.abs32-3.ensures

four : (c : After-abs32-4) → c.abs32-4.result ≡ nat_abs c.args.d
four c = rw (back16 c.ranges.d) at c.abs32-4.ensures

pub returns : goal.returns
unfolding affine_of
returns c = rw (flag _, one (goal.at.returns c).After-abs32, two (goal.at.returns c).After-abs32-2, three (goal.at.returns c).After-abs32-3, four c)
