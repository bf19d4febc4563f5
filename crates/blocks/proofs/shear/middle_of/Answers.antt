use Rattle.blocks.proofs.Usual.{refl, ◌≤◌, arith, pos, ℤ, nat_abs, ◌+ℤ◌, ◌-ℤ◌, ◌*ℤ◌, w32, SFits, back, fit_abs}
use Rattle.rows.specs.Shear.{middle}
use Rattle.rows.proofs.Laws.Numbers.Signed.{abs-add, abs-sub, abs_times}
use Rattle.blocks.proofs.shear.middle_of.Goals as goal
use Rattle.blocks.proofs.shear.middle_of.Goals.{Start}

module _ (c : Start) where
  abbrev A : ℤ
  A = pos 4 *ℤ c.args.b4

  abbrev B : ℤ
  B = pos 2 *ℤ c.args.size4

  abbrev C : ℤ
  C = A +ℤ B

  last : nat_abs (C -ℤ pos 1) ≤ 65665
  last = omega (arith, abs_times (pos 4) c.args.b4, abs_times (pos 2) c.args.size4, abs-add A B, abs-sub C (pos 1))

  a : SFits w32 A
  a = fit_abs w32 A (omega (arith, abs_times (pos 4) c.args.b4))

  b : SFits w32 B
  b = fit_abs w32 B (omega (arith, abs_times (pos 2) c.args.size4))

  s : SFits w32 C
  s = fit_abs w32 C (omega (arith, abs_times (pos 4) c.args.b4, abs_times (pos 2) c.args.size4, abs-add A B))

  d : SFits w32 (C -ℤ pos 1)
  d = fit_abs w32 (C -ℤ pos 1) (omega (arith, last))

pub returns : goal.returns
unfolding middle
returns c = simp (back c.ranges.b4, back c.ranges.size4, back (a c), back (b c), back (s c), back (d c)) (refl, omega (arith, last c))
