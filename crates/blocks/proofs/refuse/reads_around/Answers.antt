use Rattle.blocks.proofs.Usual.{◌≡◌, ◌∙◌, refl, sym, ℕ, ◌≤◌, ◌*◌, ◌+◌, ◌-◌, mul-le-mul_right, arith, le-leb, le-ltb, lt-leb, lt-ltb, ltb, reads}
use Rattle.blocks.proofs.Usual.{by-lt}
use Rattle.blocks.proofs.Laws.Calls.Refuse.{reads_past}
use Rattle.blocks.proofs.refuse.reads_around.Goals as goal
use Rattle.blocks.proofs.refuse.reads_around.Goals.{Start}

-- the products are small
small : (c : Start) → let a = c.args in (a.c * a.s ≤ 8 * a.s) × ((a.h - 1 + a.d) * a.s ≤ 1031 * a.s)
small c = (mul-le-mul_right c.args.s (omega arith), mul-le-mul_right c.args.s (omega arith))

-- the same test, without the difference
moved : (k m o l : ℕ) → o ≤ l → ltb (k + m) (l - o) ≡ ltb (o + k + m) l
moved k m o l h =
    by-lt (o + k + m) l
    (λ b. lt-ltb (k + m) (l - o) (omega arith) ∙ sym (lt-ltb (o + k + m) l b))
    λ b. le-ltb (k + m) (l - o) (omega arith) ∙ sym (le-ltb (o + k + m) l b)

pub returns-then-o-c : goal.returns-then-o-c
unfolding reads
returns-then-o-c c = let a = c.args in rw (lt-leb (a.c * a.s + a.b) a.o c.if-o-c.true) refl

pub returns-then-sl-o : goal.returns-then-sl-o
returns-then-sl-o c =
    let a = c.args in
    sym (reads_past a.sl a.o a.s a.w a.h a.b a.e a.c a.d (omega arith))

pub returns : goal.returns
unfolding reads
returns c =
    let a = c.args in
    rw (le-leb (a.c * a.s + a.b) a.o (omega arith)) (moved ((a.h - 1 + a.d) * a.s) (a.w - 1 + a.e) a.o a.sl (omega arith))
