use Rattle.rows.proofs.Usual.{◌≡◌, ◌∙◌, ap, sym, ◌-◌, ◌+◌, ◌*◌, ◌≤◌, ◌<◌, ◌^◌, ℕ, ◌/◌, min, arith, back}
use native.Mathlib.Nat.{add-mul-div_right}
use lib.Pow.{pow_mono, pow_pos, shr-shr, shr_lt}
use Rattle.rows.specs.WMask.{weight_of}
use Rattle.rows.proofs.w_mask.weight_px.Goals as goal
use Rattle.rows.proofs.w_mask.weight_px.Goals.{After-abs_diff16-d}

-- a half that is 2^k, added after the shift by k
half-later : (d k : ℕ) → (d / 2 ^ k + 1) / 2 ^ 5 ≡ (d + 2 ^ k) / 2 ^ (k + 5)
half-later d k =
    let e : (d + 1 * 2 ^ k) / 2 ^ k ≡ d / 2 ^ k + 1 = add-mul-div_right d 1 (pow_pos k) in
    ap (λ (q : ℕ). q / 2 ^ 5) (sym e) ∙ shr-shr (d + 1 * 2 ^ k) k 5 ∙ ap (λ (n : ℕ). (d + n) / 2 ^ (k + 5)) (omega arith)

-- the shift by one bit at least leaves room for 1
pub overflow_add-m : goal.overflow_add-m
overflow_add-m c =
    let k = c.args.depth + c.args.bits - 4 - 5 in
    let m : 2 ^ 16 ≤ 2 ^ (15 + k) = pow_mono {i = 16} {j = 15 + k} (omega arith) in
    let b : c.abs_diff16-d.result / 2 ^ k < 2 ^ 15 = shr_lt 15 k (omega (arith, m)) in
    omega arith

-- the weight, by the quotient that the code computes
weight : (c : After-abs_diff16-d) → let s = c.args in let t = s.depth + s.bits - 4 in
    weight_of s.depth s.bits s.a s.b ≡ min (38 + (c.abs_diff16-d.result / 2 ^ (t - 5) + 1) / 2 ^ 5) 64
unfolding weight_of
weight c =
    let t = c.args.depth + c.args.bits - 4 in
    let e : t - 5 + 5 ≡ t = omega arith in
    rw (half-later c.abs_diff16-d.result (t - 5), e, c.abs_diff16-d.ensures.0, back c.ranges.a, back c.ranges.b)

pub returns-then-m-lt64 : goal.returns-then-m-lt64
returns-then-m-lt64 c = omega (arith, weight (goal.at.returns-then-m-lt64 c).After-abs_diff16-d)

pub returns-else-m-lt64 : goal.returns-else-m-lt64
returns-else-m-lt64 c = omega (arith, weight (goal.at.returns-else-m-lt64 c).After-abs_diff16-d)
