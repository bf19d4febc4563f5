use Rattle.blocks.proofs.Usual.{◌≡◌, ◌∙◌, ap, ℕ, ◌≤◌, ◌*◌, ◌+◌, ◌-◌, ◌<◌, ◌^◌, ◌/◌, ◌%◌, arith, pos, nat_abs, w32, w64, SFits, to_z, back, backn}
use native.Mathlib.Nat.{div-le_self}
use lib.Pow.{pow_mono}
use Rattle.rows.specs.Numbers.{low32}
use Rattle.rows.specs.Shear.{g}
use Rattle.blocks.proofs.Laws.Warp.Shears.{one_shl64}
use Rattle.blocks.proofs.shear.round_shift.Goals as goal
use Rattle.blocks.proofs.shear.round_shift.Goals.{After-abs64, After-keep32-q}

half : (k : ℕ) → k ≤ 40 → 2 ^ (k - 1) ≤ 2 ^ 39
half k h = pow_mono {j = 39} (omega arith)

-- the sum and the shift, of n, below 2^62
one : (k : ℕ) → k ≤ 40 → 1 * 2 ^ (k - 1) % 18446744073709551616 ≡ 2 ^ (k - 1)
one k h = one_shl64 (k - 1) (omega arith)

sum : (k n : ℕ) → k ≤ 40 → n < 2 ^ 62 → n + 1 * 2 ^ (k - 1) % 18446744073709551616 < 2 ^ 63
sum k n h f = rw (one k h) (omega (arith, half k h))

quotient : (k n : ℕ) → k ≤ 40 → n < 2 ^ 62 → (n + 1 * 2 ^ (k - 1) % 18446744073709551616) / 2 ^ k < 2 ^ 63
quotient k n h f = let m = n + 1 * 2 ^ (k - 1) % 18446744073709551616 in omega (arith, sum k n h f, div-le_self m (2 ^ k))

is : (k n : ℕ) → k ≤ 40 → n < 2 ^ 62 → to_z w64 ((n + 1 * 2 ^ (k - 1) % 18446744073709551616) / 2 ^ k) ≡ pos ((n + 2 ^ (k - 1)) / 2 ^ k)
is k n h f = backn w64 _ (quotient k n h f) ∙ ap (λ (x : ℕ). pos ((n + x) / 2 ^ k)) (one k h)

abs : (c : After-abs64) → c.abs64.result ≡ nat_abs c.args.v
abs c = rw (back c.ranges.v) at c.abs64.ensures

small : (c : After-abs64) → c.abs64.result < 2 ^ 62
small c = omega (arith, abs c, c.requires)

-- what is kept, where v's size is n
cut : (c : After-keep32-q) → c.abs64.result ≡ nat_abs c.args.v
    → c.keep32-q.result ≡ low32 (pos ((nat_abs c.args.v + 2 ^ (c.args.k - 1)) / 2 ^ c.args.k))
cut c size =
    let k = c.args.k in
    let q = is k c.abs64.result (omega (arith, c.requires)) (omega (arith, size, c.requires)) in
    c.keep32-q.ensures ∙ ap low32 (q ∙ ap (λ (x : ℕ). pos ((x + 2 ^ (k - 1)) / 2 ^ k)) size)

pub returns-then-v-lt0 : goal.returns-then-v-lt0
unfolding g
returns-then-v-lt0 c =
    let at = goal.at.returns-then-v-lt0 c in
    let f : SFits w32 c.wrapping_neg32.result = omega arith in
    let h : SFits w32 c.keep32-q.result = omega arith in
    rw (rw (back c.ranges.v) at c.if-v-lt0.true, back f, c.wrapping_neg32.ensures, back h, cut at.After-keep32-q (abs at.After-abs64))

pub returns-else-v-lt0 : goal.returns-else-v-lt0
unfolding g
returns-else-v-lt0 c =
    let at = goal.at.returns-else-v-lt0 c in
    let h : SFits w32 c.keep32-q.result = omega arith in
    rw (rw (back c.ranges.v) at c.if-v-lt0.false, back h, cut at.After-keep32-q (abs at.After-abs64))
