-- Warp's number 0 gives what its passes rely on. Assumes nothing.
use Rattle.blocks.proofs.Usual.{true, Bool, ◌≡◌, ℕ, ◌≤◌, ◌*◌, ◌+◌, ◌^◌, ◌/◌, leb-true, ltb-true, leb, ltb, ℤ, nat_abs, lowest, stride_ok, reads, and_true}
use Rattle.blocks.proofs.Usual.{rows_met, all_met, stride_met, arith}
use Rattle.rows.specs.Warp.{filter_no, is_there, every, all_there}
use Rattle.blocks.specs.inner.Ready.{Pass, Margins, Warps}
use Rattle.blocks.specs.inner.Source.{top_down}
use Rattle.blocks.specs.Warp.{warp_place_ok, warp_tests}
use Rattle.blocks.proofs.Laws.Warp.Corners.{every-at}

pub place_met : (m : ℤ) → warp_place_ok m ≡ true → nat_abs m ≤ 2 ^ 20
unfolding warp_place_ok
place_met m e = leb-true _ _ e

margins_met : (sl o s : ℕ) → stride_ok 8 s ≡ true → reads sl o s 8 8 3 4 3 4 ≡ true → Margins sl (top_down o s)
unfolding reads
margins_met sl o s a b =
    let p = and_true (leb (3 * s + 3) o) (ltb (o + 11 * s + 11) sl) b in
    let above = leb-true (3 * s + 3) o p.0 in let below = ltb-true (o + 11 * s + 11) sl p.1 in
    record { forth = (stride_met 8 s a).1; back = omega arith; before = omega (arith, above); after = omega (arith, below); one = omega arith }

pass_met : (n rows : ℕ) (m a b : ℤ) → warp_place_ok m ≡ true → every rows (λ r. every 8 (λ i. is_there n (filter_no m a b r i))) ≡ true → Pass n m a b rows
pass_met n rows m a b p e =
    record { bounded = place_met m p; there = λ r h c k. every-at 8 (λ i. is_there n (filter_no m a b r i)) (every-at rows _ e r h) c k }

pub passes : (n : ℕ) (mx my a b c d : ℤ) → warp_place_ok mx ≡ true → warp_place_ok my ≡ true → all_there n mx my a b c d ≡ true
    → Pass n mx a b 15 × Pass n my c d 8
unfolding all_there
passes n mx my a b c d p q e =
    let f = and_true (every 15 (λ r. every 8 (λ i. is_there n (filter_no mx a b r i)))) _ e in (pass_met n 15 mx a b p f.0, pass_met n 8 my c d q f.1)

pub warp_ready : (deep : Bool) (dl ds sl ss off : ℕ) (a b c d mx my : ℤ) (tl : ℕ) → lowest (warp_tests deep dl ds sl ss off a b c d mx my tl) ≡ 0
    → (deep ≡ true) × Warps dl ds sl (top_down off ss) (tl / 8) (record { a = a; b = b; c = c; d = d; mx = mx; my = my })
warp_ready deep dl ds sl ss off a b c d mx my tl e =
    let q = all_met (warp_tests deep dl ds sl ss off a b c d mx my tl) e in
    let p = q.1.1 in let t = p.1.1.1 in let r = t.1.1 in
    let f = passes (tl / 8) mx my a b c d p.1.0 p.1.1.0 t.1.0 in (
      p.0,
      record {
        dst = rows_met dl ds 8 8 q.0 r.1.0;
        src = margins_met sl off ss q.1.0 r.0;
        first = f.0;
        second = f.1;
      },
    )
