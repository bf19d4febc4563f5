-- 8-tap: what the rows of a plan read and compute is the pixel rule on the pixels around a place, in each of the four cases. Assumes nothing.
use Rattle.blocks.proofs.Usual.{true, Bool, false, List, ◌≡◌, ◌∙◌, refl, sym, ap, ap₂, ℕ, ◌≤◌, ◌*◌, ◌+◌, ◌-◌, ◌<◌, suc, zero, min, arith, pos, ℤ}
use Rattle.blocks.proofs.Usual.{negsuc, get_or, up, clip, minus16, half, px, low16, fill, Rows, Block, fill_same, mul-le-mul_right, add-mul}
use mathlib.Core.Bool.{true≢false}
use Rattle.rows.specs.Copy.{put, prep}
use Rattle.rows.specs.Subpel.{Axis, whole, by, axis, filter_bits, tapped, mid, put8, prep8}
use Rattle.rows.proofs.Laws.Filters.Taps.{tapped_same}
use Rattle.rows.proofs.Laws.Numbers.Low.{low16_again}
use Rattle.blocks.specs.inner.Ready.{Taps, Lines}
use Rattle.blocks.specs.Subpel.{on, put8_rule, prep8_rule}
use Rattle.blocks.specs.inner.Subpel.{taps_of, in_memory, plan_of, put_line, prep_line, along, first_pass}
use Rattle.blocks.specs.inner.Source.{stand_at, row_first, around_in, Stood}
use Rattle.blocks.specs.declared.subpel.plan.Plan.{Plan}
use Rattle.blocks.specs.declared.source.Stand.{Stand}
use Rattle.blocks.proofs.Laws.Subpel.Choice.{bits_fit}
use Rattle.blocks.proofs.Laws.Subpel.Lines.{put_some, prep_some, half_le}
use Rattle.blocks.proofs.Laws.Subpel.Turned.{in_memory_lem}

-- the rows that a plan's first filter makes
abbrev pub rows_of : Bool → ℕ → ℕ
rows_of true h = h + 7
rows_of false h = h

-- ---- an axis has taps where its fraction isn't 0
no_taps : (subpel ext : List ℤ) (t : ℤ) (side : ℕ) → whole ≡ axis subpel ext t 0 side
unfolding axis
no_taps subpel ext t side = refl

has_taps : (subpel ext : List ℤ) (t : ℤ) (f side : ℕ) → by (taps_of (axis subpel ext t (suc f) side)) ≡ axis subpel ext t (suc f) side
unfolding axis taps_of
has_taps subpel ext (pos t) f side = refl
has_taps subpel ext (negsuc t) f side = refl

-- ---- the plan of the fractions x and y
module _ (s : Stand) (w h : ℕ) (subpel ext : List ℤ) (t : ℤ) (N B : ℕ) where
  abbrev P : ℕ → ℕ → Plan
  P x y = plan_of s w h subpel ext t N B x y

  pub plan_bits : (x y : ℕ) → (P x y).bits ≡ N
  unfolding plan_of
  plan_bits zero zero = refl
  plan_bits zero (suc y) = refl
  plan_bits (suc x) zero = refl
  plan_bits (suc x) (suc y) = refl

  pub plan_round : (x y : ℕ) → N ≤ 7 → 1 ≤ B → (P x y).round ≤ 127
  unfolding plan_of
  plan_round zero zero n b = omega (arith, half_le N 7 n)
  plan_round zero (suc y) n b = omega (arith, half_le N 7 n)
  plan_round (suc x) zero n b = omega (arith, half_le N 7 n, half_le (N - B) 6 (omega arith))
  plan_round (suc x) (suc y) n b = omega (arith, half_le N 7 n, half_le (N - B) 6 (omega arith))

  -- both filters
  pub record Both (x y : ℕ) (p : Plan) : Type 0 where
    pub rows : p.rows ≡ stand_at s (s.off + 3 * s.back - (3 * s.forth + 3))
    pub step : p.step ≡ 1
    pub first : by p.first ≡ axis subpel ext t x w
    pub second : by p.second ≡ axis subpel ext t y h
    pub across : min x 1 ≡ 1
    pub down : min y 1 ≡ 1

  pub is-both : (x y : ℕ) → (P x y).both ≡ true → Both x y (P x y)
  unfolding plan_of
  is-both zero zero e = absurd (true≢false (sym e))
  is-both zero (suc y) e = absurd (true≢false (sym e))
  is-both (suc x) zero e = absurd (true≢false (sym e))
  is-both (suc x) (suc y) e =
      record { rows = refl; step = refl; first = has_taps subpel ext t x w; second = has_taps subpel ext t y h; across = omega arith; down = omega arith }

  -- what is read, in each case
  abbrev Before : (a b : ℕ) → Type 0
  Before a b = 3 * b * s.forth + (h - 1 + 4 * b) * s.back + 3 * a ≤ s.off

  module _ (sl : ℕ) (w1 : 1 ≤ w) (h1 : 1 ≤ h) (forth : s.forth ≤ 32768) (back : s.back ≤ 32768) where
    abbrev Last : (a b : ℕ) → Type 0
    Last a b = s.off + (h - 1 + 4 * b) * s.forth + 3 * b * s.back + (w - 1 + 4 * a) < sl

    places : (x y a b : ℕ) → min x 1 ≡ a → min y 1 ≡ b → Before (min x 1) (min y 1) × Last (min x 1) (min y 1) → Before a b × Last a b
    places x y a b e f q = rw (← e, ← f) q

    pub plan_reach : (x y : ℕ) → Before (min x 1) (min y 1) × Last (min x 1) (min y 1)
        → let p = P x y in Stood sl p.rows (w + 7 * p.step) (rows_of p.both h)
    unfolding plan_of
    plan_reach zero zero q =
        let r = places 0 0 0 0 refl refl q in
        record { forth = forth; back = back; before = omega arith; after = omega arith }
    plan_reach zero (suc y) q =
        let r = places 0 (suc y) 0 1 refl (omega arith) q in
        record { forth = forth; back = back; before = omega arith; after = omega arith }
    plan_reach (suc x) zero q =
        let r = places (suc x) 0 1 0 (omega arith) refl q in
        record { forth = forth; back = back; before = omega arith; after = omega arith }
    plan_reach (suc x) (suc y) q =
        let r = places (suc x) (suc y) 1 1 (omega arith) (omega arith) q in
        let e : (z : ℕ) → (h - 1 + 4) * z ≡ (h + 3) * z = λ z. ap (λ (n : ℕ). n * z) (omega arith) in
        let f : (z : ℕ) → (h + 7 - 1) * z ≡ (h + 6) * z = λ z. ap (λ (n : ℕ). n * z) (omega arith) in
        record {
          forth = forth;
          back = back;
          before = omega (arith, e s.back, f s.back);
          after = omega (arith, e s.forth, f s.forth);
        }

-- ---- the pixel
-- the rows and columns before the block's, in each case
reaches : (forth back h x y z a b : ℕ) → min x 1 ≡ a → min y 1 ≡ b → 3 * min y 1 * forth + (h - 1 + 4 * min y 1) * back + 3 * min x 1 ≤ z
    → (j : ℕ) → j < h → 3 * b * forth + (j + 4 * b) * back + 3 * a ≤ z
reaches forth back h x y z a b e f q j lt =
    let r : 3 * b * forth + (h - 1 + 4 * b) * back + 3 * a ≤ z = rw (← e, ← f) q in
    omega (arith, r, mul-le-mul_right {m = j + 4 * b} {n = h - 1 + 4 * b} back (omega arith))

-- a tap down a column, where the rows stand after one another and where they stand before one another
tap_forth : (off forth back i j t : ℕ) → back ≡ 0 → 3 * forth ≤ off
    → off - (3 * forth + 4 * back) + j * forth - j * back + i + t * (forth + back)
    ≡ off + (j + t) * forth + 3 * back + (i + 3) - ((j + t) * back + 3 * forth + 3)
tap_forth off forth back i j t e q = rw e (omega arith)

tap_back : (off forth back i j t : ℕ) → forth ≡ 0 → t < 8 → (j + 4) * back ≤ off
    → off - (3 * forth + 4 * back) + j * forth - j * back + i + t * (forth + back)
    ≡ off + (j + (7 - t)) * forth + 3 * back + (i + 3) - ((j + (7 - t)) * back + 3 * forth + 3)
tap_back off forth back i j t e b q =
    let n : 7 - t + t ≡ 7 = omega arith in
    let m : (7 - t) * back + t * back ≡ 7 * back = sym (add-mul (7 - t) t back) ∙ ap (λ (v : ℕ). v * back) n in
    rw e (omega arith)

-- by one filter at most
module _ (subpel ext : List ℤ) (src : List ℕ) (s : Stand) (w h : ℕ) (t : ℤ) (N B : ℕ) (some : 0 < s.forth + s.back) (one : 0 < s.back → s.forth ≡ 0) where
  abbrev Row : (a b j : ℕ) → Type 0
  Row a b j = 3 * b * s.forth + (j + 4 * b) * s.back + 3 * a ≤ s.off

  here : (i j : ℕ) → Row 0 0 j → along src s 0 i j 0 ≡ around_in 3 src s i j 3 3
  unfolding row_first around_in
  here i j q = ap (λ (p : ℕ). get_or src p 0) (omega arith)

  left : (i j u : ℕ) → Row 1 0 j → along src (stand_at s (s.off - 3)) 1 i j u ≡ around_in 3 src s i j u 3
  unfolding row_first around_in
  left i j u q = ap (λ (p : ℕ). get_or src p 0) (omega arith)

  down : (f : List ℤ) (r n i j : ℕ) → Row 0 1 j
      → tapped (in_memory s.back f) r n (λ u. pos (along src (stand_at s (s.off - (3 * s.forth + 4 * s.back))) (s.forth + s.back) i j u))
      ≡ tapped f r n (λ u. pos (around_in 3 src s i j 3 u))
  unfolding row_first around_in
  down f r n i j q =
      in_memory_lem s.back f r n _ _
      (λ e u b. ap (px src) (tap_forth s.off s.forth s.back i j u e (omega arith)))
      λ p u b. ap (px src) (tap_back s.off s.forth s.back i j u (one p) b (omega arith))

  put_one : (M x y : ℕ) → 3 * min y 1 * s.forth + (h - 1 + 4 * min y 1) * s.back + 3 * min x 1 ≤ s.off
      → let p = plan_of s w h subpel ext t N B x y in p.both ≡ false → (i j : ℕ) → j < h
      → put_line M p.first p.round N p.step (along src p.rows p.step i j)
      ≡ put8 M B N (axis subpel ext t x w) (axis subpel ext t y h) (around_in 3 src s i j)
  unfolding plan_of put8 put_line
  put_one M zero zero q e i j lt =
      ap put (here i j (reaches s.forth s.back h 0 0 s.off 0 0 refl refl q j lt))
      ∙ ap₂ (λ (a b : Axis). put8 M B N a b (around_in 3 src s i j)) (no_taps subpel ext t w) (no_taps subpel ext t h)
  put_one M zero (suc y) q e i j lt =
      sym (put_some M _ _ N _ _ some)
      ∙ ap (clip M) (down _ _ N i j (reaches s.forth s.back h 0 (suc y) s.off 0 1 refl (omega arith) q j lt))
      ∙ ap₂ (λ (a b : Axis). put8 M B N a b (around_in 3 src s i j)) (no_taps subpel ext t w) (has_taps subpel ext t y h)
  put_one M (suc x) zero q e i j lt =
      let r = reaches s.forth s.back h (suc x) 0 s.off 1 0 (omega arith) refl q j lt in
      ap (clip M) (tapped_same _ _ N _ _ λ u b. ap pos (left i j u r))
      ∙ ap₂ (λ (a b : Axis). put8 M B N a b (around_in 3 src s i j)) (has_taps subpel ext t x w) (no_taps subpel ext t h)
  put_one M (suc x) (suc y) q e i j lt = absurd (true≢false e)

  prep-one : (P x y : ℕ) → 3 * min y 1 * s.forth + (h - 1 + 4 * min y 1) * s.back + 3 * min x 1 ≤ s.off
      → let p = plan_of s w h subpel ext t N B x y in p.both ≡ false → (i j : ℕ) → j < h
      → prep_line B P p.first (N - B) p.step (along src p.rows p.step i j)
      ≡ prep8 B P N (axis subpel ext t x w) (axis subpel ext t y h) (around_in 3 src s i j)
  unfolding plan_of prep8 prep_line
  prep-one P zero zero q e i j lt =
      ap (prep B P) (here i j (reaches s.forth s.back h 0 0 s.off 0 0 refl refl q j lt))
      ∙ ap₂ (λ (a b : Axis). prep8 B P N a b (around_in 3 src s i j)) (no_taps subpel ext t w) (no_taps subpel ext t h)
  prep-one P zero (suc y) q e i j lt =
      sym (prep_some B P _ (N - B) _ _ some)
      ∙ ap (λ (v : ℤ). minus16 (low16 v) (pos P)) (down _ _ (N - B) i j (reaches s.forth s.back h 0 (suc y) s.off 0 1 refl (omega arith) q j lt))
      ∙ ap₂ (λ (a b : Axis). prep8 B P N a b (around_in 3 src s i j)) (no_taps subpel ext t w) (has_taps subpel ext t y h)
  prep-one P (suc x) zero q e i j lt =
      let r = reaches s.forth s.back h (suc x) 0 s.off 1 0 (omega arith) refl q j lt in
      ap (λ (v : ℤ). minus16 (low16 v) (pos P)) (tapped_same _ _ (N - B) _ _ λ u b. ap pos (left i j u r))
      ∙ ap₂ (λ (a b : Axis). prep8 B P N a b (around_in 3 src s i j)) (has_taps subpel ext t x w) (no_taps subpel ext t h)
  prep-one P (suc x) (suc y) q e i j lt = absurd (true≢false e)

-- by both: what the second filter reads of the first's rows
module _ (src : List ℕ) (s : Stand) (B N : ℕ) (f : List ℤ) (i j : ℕ) (q : 3 * s.forth + (j + 4) * s.back + 3 ≤ s.off) where
  first : (u : ℕ) → u < 8 → prep_line B 0 f (N - B) 1 (along src (stand_at s (s.off + 3 * s.back - (3 * s.forth + 3))) 1 i (j + u)) ≡ mid B N f (around_in 3 src s i j) u
  unfolding mid around_in prep_line row_first
  first u c =
      let m = mul-le-mul_right {m = u} {n = 7} s.back (omega arith) in
      low16_again _ ∙ ap low16 (tapped_same f _ (N - B) _ _ λ a b. ap (px src) (omega arith))

-- ---- what the plan relies on
pub taps_before : {sl : ℕ} {s : Stand} {w h : ℕ} {mx my t : ℤ} {tl el : ℕ} → Taps sl s w h mx my t tl el → Block w h
    → 3 * on my * s.forth + 4 * on my * s.back + 3 * on mx ≤ s.off
taps_before {s = s} {h = h} {mx = mx} {my = my} k b =
    let m = mul-le-mul_right {m = 4 * on my} {n = h - 1 + 4 * on my} s.back (omega arith) in
    omega (arith, k.before, m)

-- ---- the block, of a plan
pub record Planned (subpel ext : List ℤ) (s : Stand) (w h : ℕ) (mx my t : ℤ) (B : ℕ) (p : Plan) : Type 0 where
  pub is : p ≡ plan_of s w h subpel ext t (filter_bits t) B (up mx) (up my)

module _ {subpel ext : List ℤ} {s : Stand} {w h : ℕ} {mx my t : ℤ} {B : ℕ} {p : Plan} (z : Planned subpel ext s w h mx my t B p) where
  pub bits : p.bits ≡ filter_bits t
  bits = rw z.is (plan_bits s w h subpel ext t (filter_bits t) B (up mx) (up my))

  pub bits_in : (6 ≤ p.bits) × (p.bits ≤ 7)
  bits_in = rw bits (bits_fit t)

  pub round_in : 1 ≤ B → p.round ≤ 127
  round_in b = rw z.is (plan_round s w h subpel ext t (filter_bits t) B (up mx) (up my) (bits_fit t).1 b)

module _ {subpel ext : List ℤ} {s : Stand} {w h : ℕ} {mx my t : ℤ} {B : ℕ} {p : Plan} {sl tl el : ℕ}
    (z : Planned subpel ext s w h mx my t B p) (b : Block w h) (k : Taps sl s w h mx my t tl el) where
  reach : Stood sl p.rows (w + 7 * p.step) (rows_of p.both h)
  reach = rw z.is (plan_reach s w h subpel ext t (filter_bits t) B sl b.w1 b.h1 k.forth k.back (up mx) (up my) (k.before, k.last))

  pub one_ready : {dl ds : ℕ} → Rows dl ds w h → p.both ≡ false → Lines dl ds sl p.rows p.step w h
  one_ready r e = record { w1 = b.w1; dst = r; src = rw e at reach }

  -- with both, the first filter's rows are seven more than the block's
  two : p.both ≡ true → Both s w h subpel ext t (filter_bits t) B (up mx) (up my) p
  two e = rw z.is (is-both s w h subpel ext t (filter_bits t) B (up mx) (up my) (rw (← z.is) e))

  pub both_reach : p.both ≡ true → Stood sl p.rows (w + 7 * p.step) (h + 7)
  both_reach e = rw e at reach

  module _ (src : List ℕ) where
    pub put-block : p.both ≡ false → (M ds : ℕ) → 0 < ds → (d : List ℕ)
        → fill d ds w h (λ i j. put_line M p.first p.round p.bits p.step (along src p.rows p.step i j))
        ≡ fill d ds w h (λ i j. put8_rule M B subpel ext mx my t w h (around_in 3 src s i j))
    unfolding put8_rule
    put-block e M ds some d =
        fill_same 0 ds some d w h _ _ λ i j x y.
        rw (bits z, z.is)
        (put_one subpel ext src s w h t (filter_bits t) B (omega (arith, b, k.wide)) k.one M (up mx) (up my) k.before (rw (← z.is) e) i j y)

    pub prep-block : p.both ≡ false → (P ts : ℕ) → 0 < ts → (d : List ℤ)
        → fill d ts w h (λ i j. prep_line B P p.first (p.bits - B) p.step (along src p.rows p.step i j))
        ≡ fill d ts w h (λ i j. prep8_rule B P subpel ext mx my t w h (around_in 3 src s i j))
    unfolding prep8_rule
    prep-block e P ts some d =
        fill_same (pos 0) ts some d w h _ _ λ i j x y.
        rw (bits z, z.is)
        (prep-one subpel ext src s w h t (filter_bits t) B (omega (arith, b, k.wide)) k.one P (up mx) (up my) k.before (rw (← z.is) e) i j y)

    -- with both, the second filter's sum is the rule's
    module _ (e : p.both ≡ true) where
      summed : (r c i j : ℕ) → j < h
          → tapped p.second r c (λ u. first_pass p B src i (j + u))
          ≡ tapped p.second r c (mid B p.bits p.first (around_in 3 src s i j))
      summed r c i j lt =
          let v = reaches s.forth s.back h (up mx) (up my) s.off 1 1 (two e).across (two e).down k.before j lt in
          tapped_same p.second r c _ _ λ u c. rw ((two e).step, (two e).rows) (first src s B p.bits p.first i j (omega arith) u c)

      pub put_two : (M ds : ℕ) → 0 < ds → (d : List ℕ)
          → fill d ds w h (λ i j. clip M (tapped p.second (half (p.bits + B)) (p.bits + B) (λ u. first_pass p B src i (j + u))))
          ≡ fill d ds w h (λ i j. put8_rule M B subpel ext mx my t w h (around_in 3 src s i j))
      unfolding put8_rule put8
      put_two M ds some d =
          fill_same 0 ds some d w h _ _ λ i j x y. rw (← bits z, ← (two e).first, ← (two e).second) (ap (clip M) (summed _ _ i j y))

      pub prep_two : (P ts : ℕ) → 0 < ts → (d : List ℤ)
          → fill d ts w h (λ i j. minus16 (low16 (tapped p.second (half p.bits) p.bits (λ u. first_pass p B src i (j + u)))) (pos P))
          ≡ fill d ts w h (λ i j. prep8_rule B P subpel ext mx my t w h (around_in 3 src s i j))
      unfolding prep8_rule prep8
      prep_two P ts some d =
          fill_same (pos 0) ts some d w h _ _ λ i j x y.
          rw (← bits z, ← (two e).first, ← (two e).second) (ap (λ (v : ℤ). minus16 (low16 v) (pos P)) (summed _ _ i j y))
