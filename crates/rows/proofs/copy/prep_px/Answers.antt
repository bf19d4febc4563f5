use Rattle.rows.proofs.Usual.{◌*◌, ◌≤◌, ◌^◌, arith, pos, ◌-ℤ◌, w32, w16, SFits, back, backn}
use native.Mathlib.Nat.{mul-le-mul, pow-le-pow_right}
use Rattle.rows.specs.Copy.{prep}
use Rattle.rows.proofs.Laws.Numbers.Low.{shl_small}
use Rattle.rows.proofs.Laws.Numbers.Signed.{mag-sub}
use Rattle.rows.proofs.copy.prep_px.Goals as goal
use Rattle.rows.proofs.copy.prep_px.Goals.{After-bias_of}

-- s << bits
scaled : (g : _) (c : After-bias_of g) → c.to_u32.result * 2 ^ c.bits_of.result ≤ 65535 * 16
scaled g c =
    let b : c.bits_of.result ≤ 4 = omega arith in
    let q : 2 ^ c.bits_of.result ≤ 16 = pow-le-pow_right {n = 2} (omega arith) b in
    mul-le-mul {n₂ = 65535} (omega arith) q

diff : (g : _) (c : After-bias_of g) → SFits w32 (pos (c.to_u32.result * 2 ^ c.bits_of.result) -ℤ pos c.bias_of.result)
diff g c = omega (arith, scaled g c, mag-sub (pos (c.to_u32.result * 2 ^ c.bits_of.result)) (pos c.bias_of.result))

pub returns : goal.returns
unfolding prep
returns g c =
    let s = (goal.at.returns g c).After-bias_of in
    let f : SFits w16 c.keep16.result = omega arith in
    rw (back f, c.keep16.ensures, shl_small c.to_u32.result c.bits_of.result (omega (arith, scaled g s)), backn w32 c.bias_of.result (omega arith), back (diff g s), c.to_u32.ensures.is, c.bits_of.ensures.is, c.bias_of.ensures.is)

pub overflow_sub-to_u32 : goal.overflow_sub-to_u32
overflow_sub-to_u32 g c = rw (shl_small c.to_u32.result c.bits_of.result (omega (arith, scaled g c)), backn w32 c.bias_of.result (omega arith)) (diff g c)
