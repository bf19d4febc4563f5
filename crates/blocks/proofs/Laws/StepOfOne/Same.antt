-- At a step of one pixel, from a whole number of sixteenths on, with pixels within the depth: where a scaled call is accepted, the call without a scale is
-- accepted too, and gives the same. Assumes nothing.
use Rattle.blocks.proofs.Usual.{true, Bool, false, List, inr, ◌≡◌, ◌∙◌, refl, sym, ap, ap₂, subst, ℕ, ◌≤◌, ◌*◌, ◌+◌, ◌-◌, ◌<◌, ◌^◌, suc, zero, min}
use Rattle.blocks.proofs.Usual.{mul-le-mul_right, arith, leb-true, le-leb, leb, pos, ℤ, negsuc, length, get_or, bits_of, max_of, bias_of, up, around, lowest}
use Rattle.blocks.proofs.Usual.{need, or_same, reads, whole_filters, and_true, fill_same, by-lt, all_met, stride_met, size_met}
use mathlib.Core.Logic.{◌⊎◌, inl, ⊎_elim}
use lib.ListN.{get_or-eq_default}
use Rattle.rows.specs.inner.Depth.{HighDepth}
use Rattle.rows.specs.Subpel.{Axis, family, axis, filter_bits, put8, prep8}
use Rattle.rows.specs.Bilinear.{put_bilin, prep_bilin}
use Rattle.rows.specs.Scaled.{position, pixel_of, sixteenth, in_family, put_scaled, prep_scaled, put_bilin_scaled, prep_bilin_scaled}
use Rattle.rows.proofs.Laws.Numbers.Depth.{high}
use Rattle.blocks.specs.words.Depth.{depth_ok}
use Rattle.blocks.specs.Subpel.{type_ok, sixteenth_ok, fraction_ok, subpel_ok, filter_in, on, subpel_tests, put8_rule, prep8_rule, Put8Answer, Prep8Answer}
use Rattle.blocks.specs.Bilinear.{bilin_tests, PutBilinAnswer, PrepBilinAnswer}
use Rattle.blocks.specs.Scaled.{start_ok, scaled_type_ok, reads_scaled, scaled_tests, scaled_axis, scaled_around}
use Rattle.blocks.specs.Scaled.{Put8ScaledAnswer, Prep8ScaledAnswer, PutBilinScaledAnswer, PrepBilinScaledAnswer}
use Rattle.blocks.proofs.Laws.Calls.Answer.{same_answer}
use Rattle.blocks.proofs.Laws.Calls.Refuse.{met_reads}
use Rattle.blocks.proofs.Laws.words.Depth.{depth-high}
use Rattle.blocks.proofs.Laws.Scaled.Ready.{taps_read, pair_read}
use Rattle.blocks.proofs.Laws.Warp.Corners.{every-at}
use Rattle.blocks.proofs.Laws.StepOfOne.Positions.{step_one, put_one, prep-one}
use Rattle.blocks.proofs.Laws.StepOfOne.Eight.{NearAxis, put8-one, prep8-one}

-- ---- the premises

-- each pixel of src is at most the depth's largest
pub record WithinDepth (depth : ℕ) (src : List ℕ) : Type 0 where
  pub most : (k : ℕ) → k < length src → get_or src k 0 ≤ max_of depth

-- a depth whose test is met is 8, 10 or 12, as it is in both sets
abbrev pub Tested : (deep : Bool) (depth : ℕ) → Type 0
Tested deep depth = deep ≡ true → (depth ≡ 8) ⊎ HighDepth depth

pub bytes_tested : Tested true 8
bytes_tested e = inl refl

pub words_tested : (depth : ℤ) → Tested (depth_ok depth) (up depth)
words_tested depth e = inr (depth-high depth e)

-- ---- what follows of the depth and of the pixels

record Numbers (depth : ℕ) : Type 0 where
  least : 2 ≤ bits_of depth
  most : bits_of depth ≤ 4
  small : max_of depth * 2 ^ bits_of depth < 2 ^ 14

numbers : {depth : ℕ} → (depth ≡ 8) ⊎ HighDepth depth → Numbers depth
numbers k =
    ⊎_elim (λ e. subst Numbers (sym e) (record { least = omega arith; most = omega arith; small = omega arith }))
    (λ e.
    high Numbers e
    (record { least = omega arith; most = omega arith; small = omega arith })
    (record { least = omega arith; most = omega arith; small = omega arith }))
    k

around_within : {depth : ℕ} {src : List ℕ} → WithinDepth depth src → (m o s i j a b : ℕ) → around m src o s i j a b ≤ max_of depth
unfolding around
around_within {depth} {src} p m o s i j a b =
    let k = o + (j + b) * s + (i + a) - (m * s + m) in
    by-lt k (length src) (λ l. p.most k l) λ l. rw (get_or-eq_default src 0 l) (omega arith)

-- ---- the tests that the base call makes besides

start_sixteenth : (f : ℕ) → start_ok (pos (64 * f)) ≡ true → f ≤ 15
unfolding start_ok
start_sixteenth f e = omega (arith, leb-true (64 * f) 1023 (and_true (leb 0 (64 * f)) (leb (64 * f) 1023) e).1)

sixteenth_met : (f : ℕ) → f ≤ 15 → sixteenth_ok (pos f) ≡ true
unfolding sixteenth_ok
sixteenth_met f h = rw (le-leb 0 f (omega arith), le-leb f 15 h) refl

fraction_met : (t : ℤ) (f : ℕ) → f ≤ 15 → fraction_ok t (pos f) ≡ true
unfolding fraction_ok
fraction_met t f h = rw (sixteenth_met f h) refl

type_met : (t : ℤ) → scaled_type_ok t ≡ true → type_ok t ≡ true
unfolding scaled_type_ok type_ok
type_met (pos n) e = (and_true (leb 0 n) (leb n 2) e).1
type_met (negsuc n) e = cc e

filter_met : (t : ℤ) (f el : ℕ) → scaled_type_ok t ≡ true → filter_in t (pos f) el ≡ true
unfolding scaled_type_ok filter_in
filter_met (pos n) f el e = rw (le-leb 0 n (omega arith)) refl
filter_met (negsuc n) f el e = cc e

-- ---- the source that is long enough for the scaled call is so for the base call
module _ (sl o s w h f g : ℕ) (w1 : 1 ≤ w) (h1 : 1 ≤ h) (f15 : f ≤ 15) (g15 : g ≤ 15) where
  reads_met8 : reads_scaled true sl o s w h (pos (64 * f)) (pos (64 * g)) (pos 1024) (pos 1024) ≡ true
      → reads sl o s w h (3 * on (pos f)) (4 * on (pos f)) (3 * on (pos g)) (4 * on (pos g)) ≡ true
  unfolding reads_scaled
  reads_met8 e =
      let n = pixel_of (position (64 * g) 1024 (h - 1)) in
      let first = taps_read sl o s n (position (64 * f) 1024 0) (every-at w _ e 0 (omega arith)) in
      let last = taps_read sl o s n (position (64 * f) 1024 (w - 1)) (every-at w _ e (w - 1) (omega arith)) in
      let a = step_one f 0 f15 in
      let b = step_one f (w - 1) f15 in
      let c = step_one g (h - 1) g15 in
      let up : 3 * min g 1 * s ≤ 3 * s = mul-le-mul_right s (omega arith) in
      let down : (h - 1 + 4 * min g 1) * s ≤ (n + 4) * s = mul-le-mul_right s (omega arith) in
      met_reads sl o s w h (3 * min f 1) (4 * min f 1) (3 * min g 1) (4 * min g 1) (omega (arith, first.before)) (omega (arith, last.last))

  reads_met2 : reads_scaled false sl o s w h (pos (64 * f)) (pos (64 * g)) (pos 1024) (pos 1024) ≡ true
      → reads sl o s w h 0 (on (pos f)) 0 (on (pos g)) ≡ true
  unfolding reads_scaled
  reads_met2 e =
      let n = pixel_of (position (64 * g) 1024 (h - 1)) in
      let last = pair_read sl o s n (position (64 * f) 1024 (w - 1)) (every-at w _ e (w - 1) (omega arith)) in
      let b = step_one f (w - 1) f15 in
      let c = step_one g (h - 1) g15 in
      let down : (h - 1 + min g 1) * s ≤ (n + 1) * s = mul-le-mul_right s (omega arith) in
      met_reads sl o s w h 0 (min f 1) 0 (min g 1) (omega arith) (omega arith)

-- ---- what a scaled call that is accepted tells: sides, strides, fractions and depth, and that the base call is accepted
record Accepted (isDeep isTyped : Bool) (ds w h f g n : ℕ) : Type 0 where
  w1 : 1 ≤ w
  h1 : 1 ≤ h
  apart : 0 < ds
  f15 : f ≤ 15
  g15 : g ≤ 15
  deep : isDeep ≡ true
  typed : isTyped ≡ true
  base : n ≡ 0

eight_accepted : (deep : Bool) (dl ds sl o s w h f g : ℕ) (t : ℤ) (tl el : ℕ) → whole_filters el ≡ true
    → lowest (scaled_tests true deep (scaled_type_ok t) (subpel_ok tl) dl ds sl o s w h (pos (64 * f)) (pos (64 * g)) (pos 1024) (pos 1024)) ≡ 0
    → Accepted deep (scaled_type_ok t) ds w h f g (lowest (subpel_tests deep dl ds sl o s w h (pos f) (pos g) t tl el))
unfolding need
eight_accepted deep dl ds sl o s w h f g t tl el ext e =
    let m = all_met (scaled_tests true deep (scaled_type_ok t) (subpel_ok tl) dl ds sl o s w h (pos (64 * f)) (pos (64 * g)) (pos 1024) (pos 1024)) e in
    let strides = m.1.1 in
    let motion = strides.1.1.1 in
    let tables = motion.1.1.1.1 in
    let buffers = tables.1.1 in
    let wide = size_met 64 w m.0 in
    let tall = size_met 64 h m.1.0 in
    let fx = start_sixteenth f motion.0 in
    let fy = start_sixteenth g motion.1.0 in
    record {
      w1 = wide.0;
      h1 = tall.0;
      apart = omega (arith, stride_met w ds strides.0);
      f15 = fx;
      g15 = fy;
      deep = strides.1.1.0;
      typed = tables.0;
      base = rw (
        m.0,
        m.1.0,
        strides.0,
        strides.1.0,
        strides.1.1.0,
        type_met t tables.0,
        fraction_met t f fx,
        fraction_met t g fy,
        tables.1.0,
        ext,
        filter_met t f el tables.0,
        filter_met t g el tables.0,
        reads_met8 sl o s w h f g wide.0 tall.0 fx fy buffers.0,
        buffers.1.0,
      ) refl;
    }

two_accepted : (deep : Bool) (dl ds sl s w h f g : ℕ)
    → lowest (scaled_tests false deep true true dl ds sl 0 s w h (pos (64 * f)) (pos (64 * g)) (pos 1024) (pos 1024)) ≡ 0
    → Accepted deep true ds w h f g (lowest (bilin_tests deep dl ds sl s w h (pos f) (pos g)))
unfolding need
two_accepted deep dl ds sl s w h f g e =
    let m = all_met (scaled_tests false deep true true dl ds sl 0 s w h (pos (64 * f)) (pos (64 * g)) (pos 1024) (pos 1024)) e in
    let strides = m.1.1 in
    let motion = strides.1.1.1 in
    let buffers = motion.1.1.1.1.1.1 in
    let wide = size_met 64 w m.0 in
    let tall = size_met 64 h m.1.0 in
    let fx = start_sixteenth f motion.0 in
    let fy = start_sixteenth g motion.1.0 in
    record {
      w1 = wide.0;
      h1 = tall.0;
      apart = omega (arith, stride_met w ds strides.0);
      f15 = fx;
      g15 = fy;
      deep = strides.1.1.0;
      typed = refl;
      base = rw (
        m.0,
        m.1.0,
        strides.0,
        strides.1.0,
        strides.1.1.0,
        sixteenth_met f fx,
        sixteenth_met g fy,
        reads_met2 sl 0 s w h f g wide.0 tall.0 fx fy buffers.0,
        buffers.1.0,
      ) refl;
    }

-- ---- the pixels: place and filter of a column or row x are those of the base call
axis_same : (subpel ext : List ℤ) (t : ℤ) (f side x : ℕ) → scaled_type_ok t ≡ true → f ≤ 15
    → scaled_axis subpel t (pos (64 * f)) (pos 1024) side x ≡ axis subpel ext t f side
unfolding scaled_axis in_family axis scaled_type_ok
axis_same subpel ext t f side x e h = ap (in_family subpel (family (up t) side)) (step_one f x h).1 ∙ go t f e where
  go : (t : ℤ) (f : ℕ) → scaled_type_ok t ≡ true → in_family subpel (family (up t) side) f ≡ axis subpel ext t f side
  go t zero e = refl
  go (pos t) (suc f) e = refl
  go (negsuc t) (suc f) e = cc e

around_same : (m : ℕ) (src : List ℕ) (o s f g i j : ℕ) → f ≤ 15 → g ≤ 15
    → scaled_around m src o s (pos (64 * f)) (pos (64 * g)) (pos 1024) (pos 1024) i j ≡ around m src o s i j
around_same m src o s f g i j a b = ap₂ (λ (x y : ℕ). around m src o s x y) (step_one f i a).0 (step_one g j b).0

type_bits : (t : ℤ) → scaled_type_ok t ≡ true → 6 ≡ filter_bits t
unfolding scaled_type_ok
type_bits (pos n) e = refl
type_bits (negsuc n) e = cc e

module _ {depth : ℕ} (k : Numbers depth) {src : List ℕ} (within : WithinDepth depth src) (o s f g : ℕ) (f15 : f ≤ 15) (g15 : g ≤ 15) where
  abbrev M : ℕ
  M = max_of depth

  abbrev B : ℕ
  B = bits_of depth

  abbrev P : ℕ
  P = bias_of depth

  module _ (subpel ext : List ℤ) (t : ℤ) (e : scaled_type_ok t ≡ true) (w h i j : ℕ) where
    abbrev scaled : Axis × Axis
    scaled = (scaled_axis subpel t (pos (64 * f)) (pos 1024) w i, scaled_axis subpel t (pos (64 * g)) (pos 1024) h j)

    put8-pixel : NearAxis (axis subpel ext t f w)
        → put_scaled M B scaled.0 scaled.1 (scaled_around 3 src o s (pos (64 * f)) (pos (64 * g)) (pos 1024) (pos 1024) i j)
        ≡ put8_rule M B subpel ext (pos f) (pos g) t w h (around 3 src o s i j)
    unfolding put8_rule
    put8-pixel n =
        ap (λ (q : ℕ → ℕ → ℕ). put_scaled M B scaled.0 scaled.1 q) (around_same 3 src o s f g i j f15 g15)
        ∙ ap₂ (λ (x y : Axis). put_scaled M B x y (around 3 src o s i j)) (axis_same subpel ext t f w i e f15) (axis_same subpel ext t g h j e g15)
        ∙ put8-one k.least k.most k.small (around 3 src o s i j) (λ a b c d. around_within within 3 o s i j a b) _ _ n
        ∙ ap (λ (N : ℕ). put8 M B N (axis subpel ext t f w) (axis subpel ext t g h) (around 3 src o s i j)) (type_bits t e)

    prep8-pixel : prep_scaled B P scaled.0 scaled.1 (scaled_around 3 src o s (pos (64 * f)) (pos (64 * g)) (pos 1024) (pos 1024) i j)
        ≡ prep8_rule B P subpel ext (pos f) (pos g) t w h (around 3 src o s i j)
    unfolding prep8_rule
    prep8-pixel =
        ap (λ (q : ℕ → ℕ → ℕ). prep_scaled B P scaled.0 scaled.1 q) (around_same 3 src o s f g i j f15 g15)
        ∙ ap₂ (λ (x y : Axis). prep_scaled B P x y (around 3 src o s i j)) (axis_same subpel ext t f w i e f15) (axis_same subpel ext t g h j e g15)
        ∙ prep8-one k.least k.most k.small (around 3 src o s i j) (λ a b c d. around_within within 3 o s i j a b) P _ _
        ∙ ap (λ (N : ℕ). prep8 B P N (axis subpel ext t f w) (axis subpel ext t g h) (around 3 src o s i j)) (type_bits t e)

  module _ (i j : ℕ) where
    put-bilin-pixel : put_bilin_scaled M B (sixteenth (position (64 * f) 1024 i)) (sixteenth (position (64 * g) 1024 j))
        (scaled_around 0 src o s (pos (64 * f)) (pos (64 * g)) (pos 1024) (pos 1024) i j)
        ≡ put_bilin M B f g (around 0 src o s i j)
    put-bilin-pixel =
        ap (λ (q : ℕ → ℕ → ℕ). put_bilin_scaled M B (sixteenth (position (64 * f) 1024 i)) (sixteenth (position (64 * g) 1024 j)) q)
        (around_same 0 src o s f g i j f15 g15)
        ∙ ap₂ (λ (x y : ℕ). put_bilin_scaled M B x y (around 0 src o s i j)) (step_one f i f15).1 (step_one g j g15).1
        ∙ put_one k.least k.most (omega (arith, k.small)) (around 0 src o s i j) (λ a b c d. around_within within 0 o s i j a b) f g f15 g15

    prep-bilin-pixel : prep_bilin_scaled B P (sixteenth (position (64 * f) 1024 i)) (sixteenth (position (64 * g) 1024 j))
        (scaled_around 0 src o s (pos (64 * f)) (pos (64 * g)) (pos 1024) (pos 1024) i j)
        ≡ prep_bilin B P f g (around 0 src o s i j)
    prep-bilin-pixel =
        ap (λ (q : ℕ → ℕ → ℕ). prep_bilin_scaled B P (sixteenth (position (64 * f) 1024 i)) (sixteenth (position (64 * g) 1024 j)) q)
        (around_same 0 src o s f g i j f15 g15)
        ∙ ap₂ (λ (x y : ℕ). prep_bilin_scaled B P x y (around 0 src o s i j)) (step_one f i f15).1 (step_one g j g15).1
        ∙ prep-one k.least k.most (omega (arith, k.small)) (around 0 src o s i j) (λ a b c d. around_within within 0 o s i j a b) P f g f15 g15

-- ---- the answers

-- two calls on one buffer that are accepted and make the same
joined : {A : Type 0} (old : A) {n m r r' : ℕ} {new new' d d' : A} → n ≡ 0 → m ≡ 0 → new ≡ new'
    → (r ≡ n) × (d ≡ or_same r new old) → (r' ≡ m) × (d' ≡ or_same r' new' old) → (r' ≡ 0) × (d ≡ d')
joined old p q e a b = (b.0 ∙ q, (same_answer old (p ∙ sym q) (λ z. e) a b).1)

module _ (deep : Bool) (depth : ℕ) (known : Tested deep depth) (src : List ℕ) (within : WithinDepth depth src) (ds s w h f g : ℕ) {r r₂ : ℕ} where
  -- 8-tap: ext is of whole filters, as the base call asks; of put the filter along is near, if there is one
  module _ (o : ℕ) (t : ℤ) (subpel ext : List ℤ) (filters : whole_filters (length ext) ≡ true) where
    pub put8_same : (dst : List ℕ) {d d₂ : List ℕ} → NearAxis (axis subpel ext t f w) → r ≡ 0
        → Put8ScaledAnswer deep depth dst ds src o s w h (pos (64 * f)) (pos (64 * g)) (pos 1024) (pos 1024) t subpel r d
        → Put8Answer deep depth dst ds src o s w h (pos f) (pos g) t subpel ext r₂ d₂ → (r₂ ≡ 0) × (d ≡ d₂)
    put8_same dst near z a b =
        let e = sym a.0 ∙ z in
        let c = eight_accepted deep (length dst) ds (length src) o s w h f g t (length subpel) (length ext) filters e in
        let n = numbers (known c.deep) in
        joined dst e c.base
        (fill_same 0 ds c.apart dst w h _ _ (λ i j x y. put8-pixel n within o s f g c.f15 c.g15 subpel ext t c.typed w h i j near))
        a b

    pub prep8_same : (tmp : List ℤ) {d d₂ : List ℤ} → r ≡ 0
        → Prep8ScaledAnswer deep depth tmp ds src o s w h (pos (64 * f)) (pos (64 * g)) (pos 1024) (pos 1024) t subpel r d
        → Prep8Answer deep depth tmp ds src o s w h (pos f) (pos g) t subpel ext r₂ d₂ → (r₂ ≡ 0) × (d ≡ d₂)
    prep8_same tmp z a b =
        let e = sym a.0 ∙ z in
        let c = eight_accepted deep (length tmp) ds (length src) o s w h f g t (length subpel) (length ext) filters e in
        let n = numbers (known c.deep) in
        joined tmp e c.base
        (fill_same (pos 0) ds c.apart tmp w h _ _ (λ i j x y. prep8-pixel n within o s f g c.f15 c.g15 subpel ext t c.typed w h i j))
        a b

  -- bilinear, whose base call begins at place 0
  pub put-bilin_same : (dst : List ℕ) {d d₂ : List ℕ} → r ≡ 0
      → PutBilinScaledAnswer deep depth dst ds src 0 s w h (pos (64 * f)) (pos (64 * g)) (pos 1024) (pos 1024) r d
      → PutBilinAnswer deep depth dst ds src s w h (pos f) (pos g) r₂ d₂ → (r₂ ≡ 0) × (d ≡ d₂)
  put-bilin_same dst z a b =
      let e = sym a.0 ∙ z in
      let c = two_accepted deep (length dst) ds (length src) s w h f g e in
      let n = numbers (known c.deep) in
      joined dst e c.base
      (fill_same 0 ds c.apart dst w h _ _ (λ i j x y. put-bilin-pixel n within 0 s f g c.f15 c.g15 i j))
      a b

  pub prep-bilin_same : (tmp : List ℤ) {d d₂ : List ℤ} → r ≡ 0
      → PrepBilinScaledAnswer deep depth tmp ds src 0 s w h (pos (64 * f)) (pos (64 * g)) (pos 1024) (pos 1024) r d
      → PrepBilinAnswer deep depth tmp ds src s w h (pos f) (pos g) r₂ d₂ → (r₂ ≡ 0) × (d ≡ d₂)
  prep-bilin_same tmp z a b =
      let e = sym a.0 ∙ z in
      let c = two_accepted deep (length tmp) ds (length src) s w h f g e in
      let n = numbers (known c.deep) in
      joined tmp e c.base
      (fill_same (pos 0) ds c.apart tmp w h _ _ (λ i j x y. prep-bilin-pixel n within 0 s f g c.f15 c.g15 i j))
      a b
