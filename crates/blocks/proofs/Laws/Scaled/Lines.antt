-- Scaled blocks: a row of the block from the last eight filtered rows, and from two; what the plan's rows are on the pixels around a place. Assumes nothing.
use Rattle.blocks.proofs.Usual.{List, ◌≡◌, ◌∙◌, refl, sym, ap, ℕ, ◌≤◌, ◌*◌, ◌+◌, ◌-◌, ◌<◌, ◌^◌, suc, zero, ◌/◌, ◌%◌, arith, pos, ℤ}
use Rattle.blocks.proofs.Usual.{negsuc, ◌+ℤ◌, ◌-ℤ◌, ◌*ℤ◌, get_or, w16, to_z, up, at, clip, minus16, half, dn, low16, row_of, row_same, add_parts, eq_of}
use Rattle.blocks.proofs.Usual.{sub_parts}
use native.Mathlib.Nat.{mul-div-mul_left, div-div-eq-div-mul}
use lib.Pow.{pow-add}
use Rattle.rows.specs.Numbers.{mod_z, ◌>>◌}
use Rattle.rows.specs.Subpel.{Axis, whole, by, filter, tapped}
use Rattle.rows.specs.Bilinear.{bilin, R}
use Rattle.rows.specs.inner.Bilinear.{bilin_at}
use Rattle.rows.specs.Scaled.{in_family, put_down, prep_down}
use Rattle.rows.proofs.Laws.Numbers.Low.{to_z_ind}
use Rattle.rows.proofs.Laws.Blocks.Places.{get_d_row_of}
use Rattle.rows.proofs.Laws.Numbers.Signed.{times_up, times_dn}
use Rattle.rows.proofs.Laws.Filters.Taps.{tapped_same}
use Rattle.blocks.specs.inner.Scaled.{Turned}
use Rattle.blocks.proofs.Laws.Scaled.Rows.{taps_round}

-- ---- at fraction 0 a row is between itself and itself

self_between : (a : ℤ) → bilin a a 0 ≡ pos 16 *ℤ a
unfolding bilin
self_between a =
    eq_of (pos 16 *ℤ a +ℤ pos 0 *ℤ (a -ℤ a)) (pos 16 *ℤ a)
    (omega (arith, add_parts (pos 16 *ℤ a) (pos 0 *ℤ (a -ℤ a)), times_up 0 (a -ℤ a), times_dn 0 (a -ℤ a)))

shr_sixteen : (v : ℤ) (n : ℕ) → pos 16 *ℤ v >> 4 + n ≡ v >> n
shr_sixteen (pos v) n = ap pos (ap (λ (d : ℕ). 16 * v / d) (pow-add 2 4 n) ∙ mul-div-mul_left {m = 16} v (2 ^ n) (omega arith))
shr_sixteen (negsuc v) n =
    let e : pos 16 *ℤ negsuc v ≡ negsuc (16 * v + 15) =
    eq_of (pos 16 *ℤ negsuc v) (negsuc (16 * v + 15)) (omega (arith, times_up 16 (negsuc v), times_dn 16 (negsuc v))) in
    ap (λ (z : ℤ). z >> 4 + n) e
    ∙ ap negsuc
    (ap (λ (d : ℕ). (16 * v + 15) / d) (pow-add 2 4 n) ∙ sym (div-div-eq-div-mul (16 * v + 15) 16 (2 ^ n)) ∙ ap (λ (q : ℕ). q / 2 ^ n) (omega arith))

half_up : (n : ℕ) → 1 ≤ n → half (4 + n) ≡ 16 * half n
half_up zero b = absurd (omega arith)
half_up (suc n) b = omega (arith, pow-add 2 4 (suc n), pow-add 2 1 n)

put_self : (M B : ℕ) (a : ℤ) → 1 ≤ B → clip M (R (4 + B) (bilin a a 0)) ≡ clip M (a +ℤ pos (half B) >> B)
unfolding R
put_self M B a b =
    let k = half B in
    let e : pos 16 *ℤ a +ℤ pos (16 * k) ≡ pos 16 *ℤ (a +ℤ pos k) =
    eq_of (pos 16 *ℤ a +ℤ pos (16 * k)) (pos 16 *ℤ (a +ℤ pos k))
    (omega (
      arith,
      add_parts (pos 16 *ℤ a) (pos (16 * k)),
      times_up 16 a,
      times_dn 16 a,
      times_up 16 (a +ℤ pos k),
      times_dn 16 (a +ℤ pos k),
      add_parts a (pos k),
    )) in
    ap (clip M)
    (ap (λ (z : ℤ). z +ℤ pos (half (4 + B)) >> 4 + B) (self_between a)
    ∙ ap (λ (h : ℕ). pos 16 *ℤ a +ℤ pos h >> 4 + B) (half_up B b)
    ∙ ap (λ (z : ℤ). z >> 4 + B) e
    ∙ shr_sixteen (a +ℤ pos k) B)

-- what sixteen bits keep of a difference depends on what they keep of the first number alone: numbers that are whole times 2^16 apart
record Turns (x y : ℤ) : Type 0 where
  more : ℕ
  less : ℕ
  apart : up x + dn y + 65536 * less ≡ up y + dn x + 65536 * more

turns-mod : (x y : ℤ) → Turns x y → mod_z x 65536 ≡ mod_z y 65536
turns-mod (pos m) (pos n) t = omega (arith, t.apart)
turns-mod (pos m) (negsuc n) t = omega (arith, t.apart)
turns-mod (negsuc m) (pos n) t = omega (arith, t.apart)
turns-mod (negsuc m) (negsuc n) t = omega (arith, t.apart)

low16-turns : (v : ℤ) → Turns (low16 v) v
unfolding low16
low16-turns (pos n) =
    to_z_ind w16 (n % 65536) (λ (z : ℤ). Turns z (pos n))
    (λ h. record { more = 0; less = n / 65536; apart = omega arith })
    λ h. record { more = 0; less = n / 65536 + 1; apart = omega arith }
low16-turns (negsuc n) =
    to_z_ind w16 (65535 - n % 65536) (λ (z : ℤ). Turns z (negsuc n))
    (λ h. record { more = n / 65536 + 1; less = 0; apart = omega arith })
    λ h. record { more = n / 65536; less = 0; apart = omega arith }

low16_same : (x y : ℤ) → Turns x y → low16 x ≡ low16 y
unfolding low16
low16_same x y t = ap (to_z w16) (turns-mod x y t)

low16_less : (v p : ℤ) → minus16 (low16 v) p ≡ minus16 v p
low16_less v p =
    let t = low16-turns v in
    low16_same (low16 v -ℤ p) (v -ℤ p)
    (record { more = t.more; less = t.less; apart = omega (arith, t.apart, sub_parts (low16 v) p, sub_parts v p) })

prep_self : (P a : ℤ) → minus16 (low16 (R 4 (bilin a a 0))) P ≡ minus16 a P
unfolding R
prep_self P a = low16_less _ P ∙ ap (λ (z : ℤ). minus16 z P) (ap (λ (z : ℤ). z +ℤ pos 8 >> 4) (self_between a) ∙ sixteen a) where
  sixteen : (z : ℤ) → pos 16 *ℤ z +ℤ pos 8 >> 4 ≡ z
  sixteen (pos n) = ap pos (omega arith)
  sixteen (negsuc n) =
      let e : pos 16 *ℤ negsuc n +ℤ pos 8 ≡ negsuc (16 * n + 7) =
      eq_of _ _ (omega (arith, add_parts (pos 16 *ℤ negsuc n) (pos 8), times_up 16 (negsuc n), times_dn 16 (negsuc n))) in
      ap (λ (v : ℤ). v >> 4) e ∙ ap negsuc (omega arith)

-- ---- the last step by its cases

module _ (subpel : List ℤ) (k f : ℕ) (m : ℕ → ℤ) where
  put_whole : (M B : ℕ) → f ≡ 0 → put_down M B (in_family subpel k f) m ≡ clip M (m 3 +ℤ pos (half B) >> B)
  unfolding put_down in_family
  put_whole M B e = rw e refl

  prep-whole : (P : ℕ) → f ≡ 0 → prep_down P (in_family subpel k f) m ≡ minus16 (m 3) (pos P)
  unfolding prep_down in_family
  prep-whole P e = rw e refl

by_number : (subpel : List ℤ) (k f : ℕ) (m : ℕ → ℤ) (M B : ℕ) → 0 < f
    → put_down M B (in_family subpel k f) m ≡ clip M (tapped (filter subpel (15 * k + (f - 1))) (half (6 + B)) (6 + B) m)
unfolding put_down in_family
by_number subpel k zero m M B b = absurd (omega arith)
by_number subpel k (suc f) m M B b =
    ap (λ (n : ℕ). clip M (tapped (filter subpel (15 * k + n)) (half (6 + B)) (6 + B) m)) (omega arith)

by-number-prep : (subpel : List ℤ) (k f : ℕ) (m : ℕ → ℤ) (P : ℕ) → 0 < f
    → prep_down P (in_family subpel k f) m ≡ minus16 (low16 (tapped (filter subpel (15 * k + (f - 1))) (half 6) 6 m)) (pos P)
unfolding prep_down in_family
by-number-prep subpel k zero m P b = absurd (omega arith)
by-number-prep subpel k (suc f) m P b =
    ap (λ (n : ℕ). minus16 (low16 (tapped (filter subpel (15 * k + n)) (half 6) 6 m)) (pos P)) (omega arith)

-- ---- a row from the last eight, with a filter and without

module _ (rows : List ℤ) (order : List ℕ) (subpel : List ℤ) (w k f : ℕ) where
  abbrev eight : ℕ → ℕ → ℤ
  eight i b = at rows (get_or order b 0 * 64 + i)

  turned_taps : Turned order → (g : List ℤ) (i r n : ℕ)
      → tapped (row_of 8 (λ t. at g ((t + 8 - get_or order 0 0) % 8))) r n (λ t. at rows (0 + i + t * 64)) ≡ tapped g r n (eight i)
  turned_taps o g i r n =
      let a = get_or order 0 0 in
      taps_round g a r n (λ t. at rows (0 + i + t * 64)) o.0
      ∙ tapped_same g r n _ _
      (λ t b. let e : get_or order t 0 ≡ (a + t) % 8 = ap (λ (l : List ℕ). get_or l t 0) o.1 ∙ get_d_row_of 0 8 _ t b in
      ap (λ (p : ℕ). at rows p) (omega (arith, e)))

  pub put_line_whole : (M B : ℕ) → 1 ≤ B → f ≡ 0
      → row_of w (λ i. clip M (R (4 + B) (bilin_at (at rows) (get_or order 3 0 * 64 + i) 0 0))) ≡ row_of w (λ i. put_down M B (in_family subpel k f) (eight i))
  put_line_whole M B b e =
      row_same 0 w _ _
      (λ i h. ap (λ (p : ℕ). clip M (R (4 + B) (bilin (eight i 3) (at rows p) 0))) (omega arith)
      ∙ put_self M B (eight i 3) b
      ∙ sym (put_whole subpel k f (eight i) M B e))

  pub prep_line_whole : (P : ℕ) → f ≡ 0
      → row_of w (λ i. minus16 (low16 (R 4 (bilin_at (at rows) (get_or order 3 0 * 64 + i) 0 0))) (pos P))
      ≡ row_of w (λ i. prep_down P (in_family subpel k f) (eight i))
  prep_line_whole P e =
      row_same (pos 0) w _ _
      (λ i h. ap (λ (p : ℕ). minus16 (low16 (R 4 (bilin (eight i 3) (at rows p) 0))) (pos P)) (omega arith)
      ∙ prep_self (pos P) (eight i 3)
      ∙ sym (prep-whole subpel k f (eight i) P e))

  module _ (o : Turned order) (b : 0 < f) (g : List ℤ)
      (is : g ≡ row_of 8 (λ t. at (filter subpel (15 * k + (f - 1))) ((t + 8 - get_or order 0 0) % 8))) where
    pub put_line_by : (M B r : ℕ) → r ≡ half (6 + B)
        → row_of w (λ i. clip M (tapped g r (6 + B) (λ t. at rows (0 + i + t * 64)))) ≡ row_of w (λ i. put_down M B (in_family subpel k f) (eight i))
    put_line_by M B r e =
        row_same 0 w _ _
        (λ i h. rw (e, is) (ap (clip M) (turned_taps o _ i (half (6 + B)) (6 + B)) ∙ sym (by_number subpel k f (eight i) M B b)))

    pub prep_line_by : (P : ℕ)
        → row_of w (λ i. minus16 (low16 (tapped g 32 6 (λ t. at rows (0 + i + t * 64)))) (pos P)) ≡ row_of w (λ i. prep_down P (in_family subpel k f) (eight i))
    prep_line_by P =
        row_same (pos 0) w _ _
        (λ i h. rw is (ap (λ (z : ℤ). minus16 (low16 z) (pos P)) (turned_taps o _ i 32 6) ∙ sym (by-number-prep subpel k f (eight i) P b)))

-- each of the eight stands at one of eight places
pub turned_lt : {order : List ℕ} → Turned order → (t : ℕ) → t < 8 → get_or order t 0 < 8
turned_lt o t b = omega (arith, ap (λ (l : List ℕ). get_or l t 0) o.1 ∙ get_d_row_of 0 8 _ t b)

-- ---- the last step takes no more than the eight rows

pub put-down_same : (M B : ℕ) (x : Axis) (m m' : ℕ → ℤ) → ((b : ℕ) → b < 8 → m b ≡ m' b) → put_down M B x m ≡ put_down M B x m'
unfolding put_down
put-down_same M B whole m m' e = ap (λ (z : ℤ). clip M (z +ℤ pos (half B) >> B)) (e 3 (omega arith))
put-down_same M B (by g) m m' e = ap (clip M) (tapped_same g (half (6 + B)) (6 + B) m m' e)

pub prep-down_same : (P : ℕ) (x : Axis) (m m' : ℕ → ℤ) → ((b : ℕ) → b < 8 → m b ≡ m' b) → prep_down P x m ≡ prep_down P x m'
unfolding prep_down
prep-down_same P whole m m' e = ap (λ (z : ℤ). minus16 z (pos P)) (e 3 (omega arith))
prep-down_same P (by g) m m' e = ap (λ (z : ℤ). minus16 (low16 z) (pos P)) (tapped_same g (half 6) 6 m m' e)
