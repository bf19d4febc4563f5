use Rattle.rows.proofs.Usual.{◌≤◌, ◌^◌, arith}
use native.Mathlib.Nat.{pow-le-pow_right}
use Rattle.rows.proofs.numbers.half_power.Goals as goal

pub returns : goal.returns
returns c = let h : 2 ^ c.args.n ≤ 2 ^ 11 = pow-le-pow_right {n = 2} (omega arith) c.requires in omega arith
