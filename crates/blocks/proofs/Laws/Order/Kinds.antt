-- A block of a kind from its window: what the kind's rows rely on, its numbers as a call passes them, its first place and its pixels where no margin stands
-- before it. Assumes nothing.
use Rattle.blocks.proofs.Usual.{◌&&◌, List, ◌≡◌, ◌∙◌, ap, ℕ, ◌≤◌, ◌*◌, ◌+◌, ◌-◌, ◌<◌, suc, zero, ◌/◌, arith, eqb-true, eqb, get_or, w32, w16, up, around}
use Rattle.blocks.proofs.Usual.{kind_size_ok, motion_ok, filters_ok, before, after, Rows, Block, and_true, told_back}
use mathlib.Core.Path.{fun_ext}
use Rattle.blocks.specs.Subpel.{type_ok, sixteenth_ok, fraction_ok, filter_in, on}
use Rattle.blocks.specs.Warp.{warp_place_ok}
use Rattle.blocks.specs.Window.{around_part}
use Rattle.blocks.specs.inner.Ready.{Taps, Bilin, Warps, Windowed}
use Rattle.blocks.specs.inner.Source.{top_down, pixel_in, Stood}
use Rattle.blocks.proofs.Laws.Loops.Stands.{stood_from, pixels-down}
use Rattle.blocks.specs.declared.order.Kind.{Kind}
use Rattle.blocks.specs.declared.order.Kind.TheVariants.{Copy, Subpel, Bilinear, Warp}
use Rattle.blocks.specs.declared.subpel.plan.SubpelMotion.{SubpelMotion}
use Rattle.blocks.specs.declared.order.BilinMotion.{BilinMotion}
use Rattle.blocks.specs.declared.warp.Shears.{Shears}
use Rattle.blocks.proofs.Laws.Subpel.Ready.{held, taps_down}
use Rattle.blocks.proofs.Laws.Bilinear.Ready.{sixteenth_met}
use Rattle.blocks.proofs.Laws.Calls.Told.{Told, passed, told_one}
use Rattle.blocks.proofs.Laws.Warp.Ready.{passes}

-- ---- a window's places hold those of each tap, with a filter on an axis where x or y is 1
taps_before : (s x y : ℕ) → x ≤ 1 → y ≤ 1 → 3 * y * s + 3 * x ≤ 3 * s + 3
taps_before s x zero a b = omega arith
taps_before s x (suc zero) a b = omega arith
taps_before s x (suc (suc y)) a b = absurd (omega arith)

taps_last : (sl s w h x y : ℕ) → 1 ≤ w → x ≤ 1 → y ≤ 1 → (h + 7) * s + (3 + w + 4) ≤ sl → 3 * s + 3 + (h + 4 * y) * s + (w - 1 + 4 * x) < sl
taps_last sl s w h x zero m a b e = omega arith
taps_last sl s w h x (suc zero) m a b e = omega arith
taps_last sl s w h x (suc (suc y)) m a b e = absurd (omega arith)

-- and those of the pairs of a bilinear block
pairs_in : (sl s w h x y : ℕ) → Block w h → x ≤ 1 → y ≤ 1 → (0 + h + 1 - 1) * s + (0 + w + 1) ≤ sl → (h + y - 1) * s + (w + x) ≤ sl
pairs_in sl s w h x zero b m n e =
    let z : 0 + h + 1 - 1 ≡ h - 1 + 1 = omega (arith, b) in
    let o : h + 0 - 1 ≡ h - 1 = omega arith in
    let f = rw z at e in rw o (omega arith)
pairs_in sl s w h x (suc zero) b m n e =
    let z : 0 + h + 1 - 1 ≡ h + 1 - 1 = omega arith in
    let f = rw z at e in omega arith
pairs_in sl s w h x (suc (suc y)) b m n e = absurd (omega arith)

-- ---- warp's size
pub warp-size : {k : Kind} {m : Shears} {sl s w h tl el wl : ℕ} → Windowed k sl s w h tl el wl → k ≡ Warp m → (w ≡ 8) × (h ≡ 8)
unfolding kind_size_ok
warp-size {k} {m} {sl} {s} {w} {h} p e = let q = and_true (eqb w 8) (eqb h 8) (rw e at p.size) in (eqb-true w 8 q.0, eqb-true h 8 q.1)

-- ---- a kind by its numbers as a call passes them
pub subpel_passed : {k : Kind} {m : SubpelMotion} {A B C D : Type 0} → k ≡ Subpel m
    → Told w32 m.mx A (Told w32 m.my B (Told w32 m.filter_type C D))
    → k ≡ Subpel (record { mx = passed w32 m.mx; my = passed w32 m.my; filter_type = passed w32 m.filter_type })
subpel_passed e g = rw (told_back w32 g, told_back w32 g.1, told_back w32 g.1.1) e

pub bilin_passed : {k : Kind} {m : BilinMotion} {A B C : Type 0} → k ≡ Bilinear m → Told w32 m.mx A (Told w32 m.my B C)
    → k ≡ Bilinear (record { mx = passed w32 m.mx; my = passed w32 m.my })
bilin_passed e g = rw (told_back w32 g, told_back w32 g.1) e

pub warp_passed : {k : Kind} {m : Shears} {A B C D E F G : Type 0} → k ≡ Warp m
    → Told w16 m.a A (Told w16 m.b B (Told w16 m.c C (Told w16 m.d D (Told w32 m.mx E (Told w32 m.my F G)))))
    → k ≡ Warp (record {
      a = passed w16 m.a;
      b = passed w16 m.b;
      c = passed w16 m.c;
      d = passed w16 m.d;
      mx = passed w32 m.mx;
      my = passed w32 m.my;
    })
warp_passed {m = m} e g =
    let ((before-a, a), ((before-b, b), ((before-c, c), ((before-d, d), ((before-x, x), ((before-y, y), rest)))))) = g in
    rw (
      told_one w16 m.a a,
      told_one w16 m.b b,
      told_one w16 m.c c,
      told_one w16 m.d d,
      told_one w32 m.mx x,
      told_one w32 m.my y,
    ) e

-- ---- what each kind's rows rely on
module _ {k : Kind} {sl s w h tl el wl dl ds : ℕ} (p : Windowed k sl s w h tl el wl) (dst : Rows dl ds w h) where
  pub copy_ready : k ≡ Copy → Block w h × Rows dl ds w h × Stood sl (top_down 0 s) w h
  unfolding before after
  copy_ready e =
      let r = rw e at p.src in
      let z : 0 + h + 0 - 1 ≡ h - 1 = omega arith in
      let f = rw z at r.fits in
      (p.block, dst, stood_from r.most (omega arith))

  pub subpel_ready : {m : SubpelMotion} → k ≡ Subpel m
      → Block w h × Rows dl ds w h × Taps sl (top_down (3 * s + 3) s) w h m.mx m.my m.filter_type tl el
  unfolding before after motion_ok filters_ok
  subpel_ready {m} e =
      let t = m.filter_type in
      let q : Windowed (Subpel m) sl s w h tl el wl = rw e at p in
      let n = and_true (type_ok t) (fraction_ok t m.mx && fraction_ok t m.my) q.motion in
      let f = and_true (fraction_ok t m.mx) (fraction_ok t m.my) n.1 in
      let i = and_true (filter_in t m.mx el) (filter_in t m.my el) q.filters in
      let z : 3 + h + 4 - 1 ≡ h - 1 + 7 = omega (arith, p.block) in (
        p.block,
        dst,
        taps_down (omega (arith, q.src.wide)) q.src.most (taps_before s (on m.mx) (on m.my) (omega arith) (omega arith))
            (taps_last sl s w (h - 1) (on m.mx) (on m.my) p.block.w1 (omega arith) (omega arith) (rw z at q.src.fits))
            (held t m.mx w tl el n.0 f.0 p.subpel i.0) (held t m.my h tl el n.0 f.1 p.subpel i.1),
      )

  pub bilin_ready : {m : BilinMotion} → k ≡ Bilinear m → Bilin dl ds sl (top_down 0 s) w h (up m.mx) (up m.my)
  unfolding before after motion_ok
  bilin_ready {m} e =
      let q : Windowed (Bilinear m) sl s w h tl el wl = rw e at p in
      let f = and_true (sixteenth_ok m.mx) (sixteenth_ok m.my) q.motion in
      record {
        block = p.block;
        dst = dst;
        src = stood_from q.src.most
            (omega (arith, pairs_in sl s w h (on m.mx) (on m.my) p.block (omega arith) (omega arith) q.src.fits));
        one = omega arith;
        f15 = sixteenth_met m.mx f.0;
        g15 = sixteenth_met m.my f.1;
      }

  pub warp_ready : {m : Shears} → k ≡ Warp m → Warps dl ds sl (top_down (3 * s + 3) s) (wl / 8) m
  unfolding before after motion_ok filters_ok
  warp_ready {m} e =
      let q : Windowed (Warp m) sl s w h tl el wl = rw e at p in
      let z = warp-size p e in
      let n = and_true (warp_place_ok m.mx) (warp_place_ok m.my) q.motion in
      let f = passes (wl / 8) m.mx m.my m.a m.b m.c m.d n.0 n.1 q.filters in
      let r = rw (z.0, z.1) at q.src in
      record {
        dst = rw (z.0, z.1) at dst;
        src = record { forth = r.most; back = omega arith; before = omega arith; after = omega (arith, r.fits); one = omega arith };
        first = f.0;
        second = f.1;
      }

-- ---- a window without a margin before the block: the block begins at its first place, and a copied pixel is the one there
pub no_margin : (s : ℕ) → 0 * s + 0 ≡ 0
no_margin s = omega arith

pub from_window : {A : Type 0} (rule : ℕ → A) (src : List ℕ) (s : ℕ)
    → ◌≡◌ {A = ℕ → ℕ → A} (λ i j. rule (pixel_in src (top_down 0 s) i j)) (λ i j. rule (around_part 0 src s i j 0 0))
unfolding before around
from_window rule src s = pixels-down rule src s ∙ (fun_ext λ i. fun_ext λ j. ap (λ (p : ℕ). rule (get_or src p 0)) (omega arith))
