use Rattle.blocks.proofs.Usual.{true, ◌&&◌, ◌≡◌, ◌∙◌, refl, sym, ℕ, ◌≤◌, ◌*◌, ◌+◌, ◌-◌, ◌<◌, ◌/◌, mul_comm, arith, leb-true, le-leb, lt-leb, leb, holds}
use Rattle.blocks.proofs.Usual.{and_true, by-lt}
use native.Mathlib.Nat.{le-div_iff_mul-le, mul-le-mul, zero-mul}
use Rattle.blocks.proofs.refuse.holds_rows.Goals as goal

-- with room for one row, the rows before it fit where the stride is at most their share of the rest
share : (l s w k : ℕ) → w ≤ l → 0 < k → leb s ((l - w) / k) ≡ leb (k * s + w) l
share l s w k wl pos =
    by-lt ((l - w) / k) s
    (λ h. lt-leb s ((l - w) / k) h ∙ sym (lt-leb (k * s + w) l (by-lt l (k * s + w) (λ g. g) λ g.
    let m : s * k ≤ l - w = rw (mul_comm s k) (omega arith) in
    absurd (omega (arith, (le-div_iff_mul-le pos).1 m)))))
    λ h. le-leb s ((l - w) / k) h ∙ sym (le-leb (k * s + w) l (omega (arith, (le-div_iff_mul-le pos).0 h, mul_comm s k)))

-- so do they where they take at most the rest
beside : (l w n : ℕ) → w ≤ l → leb n (l - w) ≡ leb (n + w) l
beside l w n wl =
    by-lt (l - w) n (λ h. lt-leb n (l - w) h ∙ sym (lt-leb (n + w) l (omega arith)))
    λ h. le-leb n (l - w) h ∙ sym (le-leb (n + w) l (omega arith))

-- where both numbers are small, so is their product
small : (s h : ℕ) → leb s 32768 && leb h 32768 ≡ true → (h - 1) * s ≤ 32768 * 32768
small s h e =
    let p = and_true (leb s 32768) (leb h 32768) e in
    let q : h - 1 ≤ 32768 = omega (arith, leb-true h 32768 p.1) in
    mul-le-mul q (leb-true s 32768 p.0)

pub returns-then-l-w : goal.returns-then-l-w
unfolding holds
returns-then-l-w c =
    let a = c.args in
    sym (lt-leb ((a.h - 1) * a.s + a.w) a.l (omega arith))

pub returns-then-h-le1 : goal.returns-then-h-le1
unfolding holds
returns-then-h-le1 c =
    let a = c.args in
    let e : a.h - 1 ≡ 0 = omega arith in
    let m : (a.h - 1) * a.s ≡ 0 = rw (e, zero-mul a.s) refl in
    sym (le-leb ((a.h - 1) * a.s + a.w) a.l (omega (arith, m)))

pub returns-then-s-h : goal.returns-then-s-h
unfolding holds
returns-then-s-h c =
    let a = c.args in
    beside a.l a.w ((a.h - 1) * a.s) (omega arith)

pub returns : goal.returns
unfolding holds
returns c =
    let a = c.args in
    share a.l a.s a.w (a.h - 1) (omega arith) (omega arith)
