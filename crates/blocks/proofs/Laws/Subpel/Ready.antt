-- 8-tap: what the tests tell where none refuses. Assumes nothing.
use Rattle.blocks.proofs.Usual.{true, Bool, false, ◌&&◌, ◌≡◌, ◌∙◌, refl, sym, ℕ, ◌≤◌, ◌*◌, ◌+◌, ◌-◌, ◌<◌, suc, zero, arith, leb-true, le-ltb, eqb-true, ltb-true}
use Rattle.blocks.proofs.Usual.{leb, ltb, pos, ℤ, negsuc, le_z, up, lowest, reads, Rows, Block, and_true, by-lt, rows_met, block_met, all_met, stride_met}
use mathlib.Core.Bool.{◌||◌}
use Rattle.rows.specs.Subpel.{family}
use Rattle.blocks.specs.inner.Ready.{Taps}
use Rattle.blocks.specs.inner.Source.{top_down}
use Rattle.blocks.specs.Subpel.{type_ok, sixteenth_ok, fraction_ok, subpel_ok, filter_in, on, subpel_tests}
use Rattle.blocks.specs.inner.Subpel.{filter_of, Held}
use Rattle.blocks.proofs.Laws.Subpel.Choice.{family-low, family-high}

-- ---- the filter that passed its tests is in its table
pub family-le : (t side : ℕ) → t ≤ 2 → family t side ≤ 4
family-le t side h = by-lt 4 side (λ b. rw (← family-high t side b) (omega arith)) λ b. rw (← family-low t side b) (omega arith)

first_of : (a b : Bool) → a || b ≡ true → b ≡ false → a ≡ true
first_of true b e f = refl
first_of false b e f = sym f ∙ e

pub held : (t f : ℤ) (side tl el : ℕ) → type_ok t ≡ true → fraction_ok t f ≡ true → subpel_ok tl ≡ true → filter_in t f el ≡ true → Held tl el (filter_of t (up f) side)
unfolding filter_of type_ok sixteenth_ok fraction_ok filter_in subpel_ok
held t (negsuc f) side tl el a b c d = tt
held t (pos zero) side tl el a b c d = tt
held (negsuc t) (pos (suc f)) side tl el a b c d = omega (arith, leb-true (8 * suc f) el d)
held (pos t) (pos (suc f)) side tl el a b c d =
    let m = family-le t side (leb-true t 2 (and_true (le_z (negsuc 0) (pos t)) (leb t 2) a).1) in
    let z : ltb t 0 && leb 0 (suc f) ≡ false = rw (le-ltb t 0 (omega arith)) refl in
    let q = first_of (leb 0 (suc f) && leb (suc f) 15) (ltb t 0 && leb 0 (suc f)) b z in
    let n = leb-true (suc f) 15 (and_true (leb 0 (suc f)) (leb (suc f) 15) q).1 in
    omega (arith, eqb-true tl 600 c)

-- a source whose rows stand a stride apart
pub taps_down : {sl o ss w h : ℕ} {mx my t : ℤ} {tl el : ℕ} → w ≤ ss → ss ≤ 32768 → 3 * on my * ss + 3 * on mx ≤ o
    → o + (h - 1 + 4 * on my) * ss + (w - 1 + 4 * on mx) < sl → Held tl el (filter_of t (up mx) w) → Held tl el (filter_of t (up my) h)
    → Taps sl (top_down o ss) w h mx my t tl el
taps_down wide most before last across down =
    record {
      wide = omega arith;
      forth = most;
      back = omega arith;
      one = λ b. absurd (omega arith);
      before = omega arith;
      last = omega arith;
      across = across;
      down = down;
    }

pub subpel_ready : (deep : Bool) (dl ds sl o ss w h : ℕ) (mx my t : ℤ) (tl el : ℕ) → lowest (subpel_tests deep dl ds sl o ss w h mx my t tl el) ≡ 0
    → (deep ≡ true) × Block w h × Rows dl ds w h × Taps sl (top_down o ss) w h mx my t tl el
unfolding reads
subpel_ready deep dl ds sl o ss w h mx my t tl el e =
    let m = all_met (subpel_tests deep dl ds sl o ss w h mx my t tl el) e in
    let s = m.1.1 in
    let n = s.1.1.1 in
    let q = n.1.1.1 in
    let z = q.1.1.1.1 in
    let r = and_true (leb (3 * on my * ss + 3 * on mx) o) (ltb (o + (h - 1 + 4 * on my) * ss + (w - 1 + 4 * on mx)) sl) z.0 in
    let p = stride_met w ss s.1.0 in (
      s.1.1.0,
      block_met w h m.0 m.1.0,
      rows_met dl ds w h s.0 z.1.0,
      taps_down p.0 p.1 (leb-true _ _ r.0) (ltb-true _ _ r.1) (held t mx w tl el n.0 n.1.0 q.0 q.1.1.0)
          (held t my h tl el n.0 n.1.1.0 q.0 q.1.1.1.0),
    )
