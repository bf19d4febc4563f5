-- 8-tap: the filter that the code chooses is the axis of document 01, and the four cases of its plan. Assumes nothing.
use Rattle.blocks.proofs.Usual.{true, List, ◌≡◌, refl, ap, ℕ, ◌≤◌, ◌*◌, ◌+◌, ◌-◌, ◌<◌, suc, zero, ◌%◌, arith, le-ltb, lt-ltb, pos, ℤ, negsuc, up, half}
use Rattle.blocks.proofs.Usual.{dn}
use Rattle.rows.specs.Subpel.{family, axis, filter_bits}
use Rattle.blocks.specs.inner.Subpel.{axis_of, filter_of, taps_of, in_memory, by_one, plan_of}
use Rattle.blocks.specs.inner.Source.{stand_at}
use Rattle.blocks.specs.declared.source.Stand.{Stand}
use Rattle.blocks.specs.declared.subpel.plan.Filter.TheVariants.{Off, Ext, Subpel}

-- ---- the filter of an axis
pub axis_of_lem : (subpel ext : List ℤ) (t : ℤ) (f side : ℕ) → axis_of subpel ext (filter_of t f side) ≡ axis subpel ext t f side
unfolding axis_of filter_of axis
axis_of_lem subpel ext t zero side = refl
axis_of_lem subpel ext (negsuc t) (suc f) side = refl
axis_of_lem subpel ext (pos t) (suc f) side = refl

pub filter_off : (t : ℤ) (f side : ℕ) → f ≡ 0 → Off ≡ filter_of t f side
unfolding filter_of
filter_off t f side e = rw e refl

pub filter-ext : (t : ℤ) (f side : ℕ) → 0 < f → 0 < dn t → Ext (f - 1) ≡ filter_of t f side
unfolding filter_of
filter-ext t zero side p q = absurd (omega arith)
filter-ext (pos t) (suc f) side p q = absurd (omega arith)
filter-ext (negsuc t) (suc f) side p q = ap Ext (omega arith)

pub filter-sub : (t : ℤ) (f side m : ℕ) → 0 < f → dn t ≡ 0 → m ≡ family (up t) side → Subpel (15 * m + (f - 1)) ≡ filter_of t f side
unfolding filter_of
filter-sub t zero side m p q e = absurd (omega arith)
filter-sub (negsuc t) (suc f) side m p q e = absurd (omega arith)
filter-sub (pos t) (suc f) side m p q e = rw e (ap Subpel (omega arith))

pub family-low : (t side : ℕ) → side ≤ 4 → 3 + t % 2 ≡ family t side
unfolding family
family-low t side h = rw (le-ltb 4 side h) refl

pub family-high : (t side : ℕ) → 4 < side → t ≡ family t side
unfolding family
family-high t side h = rw (lt-ltb 4 side h) refl

-- ---- N
pub bits_below : (t : ℤ) → 0 < dn t → 7 ≡ filter_bits t
bits_below (pos t) h = absurd (omega arith)
bits_below (negsuc t) h = refl

pub bits_above : (t : ℤ) → dn t ≡ 0 → 6 ≡ filter_bits t
bits_above (pos t) h = refl
bits_above (negsuc t) h = absurd (omega arith)

pub bits_fit : (t : ℤ) → (6 ≤ filter_bits t) × (filter_bits t ≤ 7)
bits_fit (pos t) = omega arith
bits_fit (negsuc t) = omega arith

-- ---- the four cases, by which fractions are 0: n is N, r and q its halves, f and g the taps, a where the first taps stand
module _ (s : Stand) (w h : ℕ) (subpel ext : List ℤ) (t : ℤ) (N B x y : ℕ) {n r : ℕ} (n-is : n ≡ N) (r-is : r ≡ half N) where
  pub plan_none : {g : List ℤ} → g ≡ taps_of (axis subpel ext t y h) → x ≡ 0 → y ≡ 0 → by_one n s 0 r g ≡ plan_of s w h subpel ext t N B x y
  unfolding plan_of
  plan_none g-is e f = rw (n-is, r-is, g-is, e, f) refl

  pub plan_down : {a : Stand} {g : List ℤ} → a ≡ stand_at s (s.off - (3 * s.forth + 4 * s.back)) → g ≡ in_memory s.back (taps_of (axis subpel ext t y h))
      → x ≡ 0 → 0 < y → by_one n a (s.forth + s.back) r g ≡ plan_of s w h subpel ext t N B x y
  unfolding plan_of
  plan_down a-is g-is e f = rw (n-is, r-is, a-is, g-is, e) (more y f) where
    more : (y : ℕ) → 0 < y
        → by_one N (stand_at s (s.off - (3 * s.forth + 4 * s.back))) (s.forth + s.back) (half N) (in_memory s.back (taps_of (axis subpel ext t y h)))
        ≡ plan_of s w h subpel ext t N B 0 y
    more zero f = absurd (omega arith)
    more (suc y) f = refl

  module _ {q : ℕ} {a : Stand} {f : List ℤ} (q-is : q ≡ half (N - B)) (f-is : f ≡ taps_of (axis subpel ext t x w)) where
    pub plan_across : a ≡ stand_at s (s.off - 3) → 0 < x → y ≡ 0 → by_one n a 1 (r + q) f ≡ plan_of s w h subpel ext t N B x y
    unfolding plan_of
    plan_across a-is e z = rw (n-is, r-is, q-is, a-is, f-is, z) (more x e) where
      more : (x : ℕ) → 0 < x
          → by_one N (stand_at s (s.off - 3)) 1 (half N + half (N - B)) (taps_of (axis subpel ext t x w)) ≡ plan_of s w h subpel ext t N B x 0
      more zero e = absurd (omega arith)
      more (suc x) e = refl

    pub plan_both : {g : List ℤ} → a ≡ stand_at s (s.off + 3 * s.back - (3 * s.forth + 3)) → g ≡ taps_of (axis subpel ext t y h) → 0 < x → 0 < y
        → record { bits = n; both = true; rows = a; step = 1; round = r + q; first = f; second = g } ≡ plan_of s w h subpel ext t N B x y
    unfolding plan_of
    plan_both a-is g-is e z = rw (n-is, r-is, q-is, a-is, f-is, g-is) (more x y e z) where
      more : (x y : ℕ) → 0 < x → 0 < y
          → record {
            bits = N;
            both = true;
            rows = stand_at s (s.off + 3 * s.back - (3 * s.forth + 3));
            step = 1;
            round = half N + half (N - B);
            first = taps_of (axis subpel ext t x w);
            second = taps_of (axis subpel ext t y h);
          }
          ≡ plan_of s w h subpel ext t N B x y
      more zero y e f = absurd (omega arith)
      more (suc x) zero e f = absurd (omega arith)
      more (suc x) (suc y) e f = refl
