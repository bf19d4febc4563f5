-- The combining laws of demand 3 as equations of what calls answer: their numbers, and their whole destinations. Assumes nothing.
use Rattle.blocks.proofs.Usual.{true, Bool, false, ◌&&◌, List, ◌≡◌, ◌∙◌, refl, sym, ap, ℕ, ◌≤◌, ◌*◌, ◌+◌, ◌<◌, arith, le-leb, pos, ℤ, negsuc, ◌-ℤ◌}
use Rattle.blocks.proofs.Usual.{length, le_z, mag, lt_z, bits_of, max_of, bias_of, up, at, dn, pixel, fill, lowest, holds, need, and_true, fill_same}
use Rattle.blocks.proofs.Usual.{one-part, le_yes, eq_of, sub_parts}
use mathlib.Core.Path.{fun_ext}
use lib.ListN.{replicate, get_or-replicate}
use Rattle.rows.specs.Combine.{weighted, masked, both}
use Rattle.rows.proofs.Laws.Numbers.Signed.{le_no, lt_yes, lt_no, mag_up, mag-dn}
use Rattle.rows.proofs.Laws.Pixels.Combine.{swap_avg, swap_weight, mask_weight}
use Rattle.blocks.specs.Refuse.{holds_all}
use Rattle.blocks.specs.Combine.{combine_tests, w_avg_tests, mask_tests, weight_ok, AvgAnswer, WAvgAnswer, MaskAnswer}
use Rattle.blocks.proofs.Laws.Calls.Answer.{same_answer}
use Rattle.blocks.proofs.Laws.Combine.Ready.{mask_ready}

-- ---- the numbers

swap_need : (a b : Bool) (n rest : ℕ) → need a n (need b n rest) ≡ need b n (need a n rest)
unfolding need
swap_need true b n rest = refl
swap_need false true n rest = refl
swap_need false false n rest = refl

-- the two intermediates are tested alike
swap_tests : (dl ds l1 l2 w h : ℕ) (other mask : Bool) → lowest (combine_tests dl ds l1 l2 w h other mask) ≡ lowest (combine_tests dl ds l2 l1 w h other mask)
swap_tests dl ds l1 l2 w h other mask = rw (swap_need (holds_all l1 w h) (holds_all l2 w h)) refl

-- a test passed, from the parts
le_true : (a b : ℤ) → up a + dn b ≤ up b + dn a → le_z a b ≡ true
le_true a b h = go (le_z a b) refl where
  go : (t : Bool) → le_z a b ≡ t → t ≡ true
  go true e = refl
  go false e = absurd (omega (arith, le_no a b e))

-- -16 to 32 lies the same on both sides of 8
partner_met : (j k : ℤ) → up j + up k ≡ 16 + (dn j + dn k) → weight_ok k ≡ true → weight_ok j ≡ true
unfolding weight_ok
partner_met j k s e =
    let p = and_true (le_z (negsuc 15) k) (le_z k (pos 32)) e in
    rw (
      le_true (negsuc 15) j (omega (arith, le_yes k (pos 32) p.1)),
      le_true j (pos 32) (omega (arith, le_yes (negsuc 15) k p.0)),
    )

both_true : (a b : Bool) → (a ≡ true → b ≡ true) → (b ≡ true → a ≡ true) → a ≡ b
both_true true b f g = sym (f refl)
both_true false true f g = g refl
both_true false false f g = refl

-- 16 - k is in range exactly where k is
pub partner_ok : (k : ℤ) → weight_ok k ≡ weight_ok (pos 16 -ℤ k)
partner_ok k =
    both_true (weight_ok k) (weight_ok (pos 16 -ℤ k))
    (partner_met (pos 16 -ℤ k) k (omega (arith, sub_parts (pos 16) k)))
    (partner_met k (pos 16 -ℤ k) (omega (arith, sub_parts (pos 16) k)))

and_right : (a : Bool) → a ≡ (a && true)
and_right true = refl
and_right false = refl

weight_ok_lem : (k : ℕ) → k ≤ 32 → weight_ok (pos k) ≡ true
unfolding weight_ok
weight_ok_lem k h = le-leb k 32 h

-- a mask that holds the block is tested like a weight in range
mask_tests_lem : (deep : Bool) (dl ds l1 l2 w h ml k : ℕ) → holds_all ml w h ≡ true → k ≤ 32
    → lowest (mask_tests deep dl ds l1 l2 w h ml) ≡ lowest (w_avg_tests deep dl ds l1 l2 w h (pos k))
mask_tests_lem deep dl ds l1 l2 w h ml k held h32 = rw (held, weight_ok_lem k h32) (ap (λ (t : Bool). lowest (combine_tests dl ds l1 l2 w h t true)) (and_right deep))

-- a mask of m at each place of the block
abbrev pub Everywhere : (m : ℕ) (mask : List ℕ) (w h : ℕ) → Type 0
Everywhere m mask w h = (i j : ℕ) → i < w → j < h → pixel mask w i j ≡ m

-- ---- the blocks: one by a mask of 4k, and one by the weight k; one by a weight, and that of its partner with the inputs swapped
module _ (M B P : ℕ) (dst : List ℕ) (ds : ℕ) (tmp1 tmp2 : List ℤ) (w h : ℕ) where
  pub even-fill : (mask : List ℕ) (ms k : ℕ) → 0 < ds → ((i j : ℕ) → i < w → j < h → pixel mask ms i j ≡ 4 * k)
      → fill dst ds w h (λ i j. both (masked M B P (pixel mask ms i j)) tmp1 tmp2 (j * w) i) ≡ fill dst ds w h (λ i j. both (weighted M B P (pos k)) tmp1 tmp2 (j * w) i)
  even-fill mask ms k p all =
      fill_same 0 ds p dst w h _ _ λ i j iw jh.
      let a = at tmp1 (j * w + i) in let b = at tmp2 (j * w + i) in
      ap (λ (m : ℕ). masked M B P m a b) (all i j iw jh) ∙ mask_weight M B P k a b

  pub swap_fill : (k : ℤ)
      → fill dst ds w h (λ i j. both (weighted M B P k) tmp1 tmp2 (j * w) i) ≡ fill dst ds w h (λ i j. both (weighted M B P (pos 16 -ℤ k)) tmp2 tmp1 (j * w) i)
  swap_fill k = ap (fill dst ds w h) (fun_ext λ i. fun_ext λ j. swap_weight M B P k (at tmp1 (j * w + i)) (at tmp2 (j * w + i)))

-- ---- a weight that is a mask, and one below 0, whose partner is
pub weight_above : (k : ℤ) → lt_z k (pos 0) ≡ false → mag k < 33 → (dn k ≡ 0) × (up k < 64)
weight_above k e m = omega (arith, lt_no k (pos 0) e, one-part k, mag_up k)

pub weight_below : (k : ℤ) → lt_z k (pos 0) ≡ true → mag k < 33 → (dn (pos 16 -ℤ k) ≡ 0) × (up (pos 16 -ℤ k) < 64)
weight_below k e m = omega (arith, lt_yes k (pos 0) e, one-part k, mag-dn k, sub_parts (pos 16) k, one-part (pos 16 -ℤ k))

-- by one row of the mask for all rows
module _ (M B P : ℕ) (dst : List ℕ) (ds : ℕ) (w h : ℕ) (v : ℕ) where
  pub above_fill : (tmp1 tmp2 : List ℤ) (k : ℤ) → 0 < ds → w ≤ 64 → v ≡ 4 * up k → dn k ≡ 0
      → fill dst ds w h (λ i j. both (masked M B P (pixel (replicate 64 v) 0 i j)) tmp1 tmp2 (j * w) i) ≡ fill dst ds w h (λ i j. both (weighted M B P k) tmp1 tmp2 (j * w) i)
  above_fill tmp1 tmp2 k p b e n =
      even-fill M B P dst ds tmp1 tmp2 w h (replicate 64 v) 0 (up k) p (λ i j iw jh. get_or-replicate 64 (j * 0 + i) v 0 (omega arith) ∙ e)
      ∙ ap (λ (z : ℤ). fill dst ds w h (λ i j. both (weighted M B P z) tmp1 tmp2 (j * w) i)) (eq_of (pos (up k)) k (omega arith))

  pub below_fill : (tmp1 tmp2 : List ℤ) (k : ℤ) → 0 < ds → w ≤ 64 → v ≡ 4 * up (pos 16 -ℤ k) → dn (pos 16 -ℤ k) ≡ 0
      → fill dst ds w h (λ i j. both (masked M B P (pixel (replicate 64 v) 0 i j)) tmp2 tmp1 (j * w) i) ≡ fill dst ds w h (λ i j. both (weighted M B P k) tmp1 tmp2 (j * w) i)
  below_fill tmp1 tmp2 k p b e n = above_fill tmp2 tmp1 (pos 16 -ℤ k) p b e n ∙ sym (swap_fill M B P dst ds tmp1 tmp2 w h k)

-- ---- the laws, of two calls on one destination
module _ (deep : Bool) (depth : ℕ) (dst : List ℕ) (ds : ℕ) (tmp1 tmp2 : List ℤ) (w h : ℕ) {r r' : ℕ} {d d' : List ℕ} where
  -- "swapping two inputs" of avg: the same number, the same destination
  pub swap_avg-block : AvgAnswer deep depth dst ds tmp1 tmp2 w h r d → AvgAnswer deep depth dst ds tmp2 tmp1 w h r' d' → (r ≡ r') × (d ≡ d')
  swap_avg-block =
      same_answer dst (swap_tests (length dst) ds (length tmp1) (length tmp2) w h deep true)
      λ _. ap (fill dst ds w h) (fun_ext λ i. fun_ext λ j. swap_avg (max_of depth) (bits_of depth) (bias_of depth) (at tmp1 (j * w + i)) (at tmp2 (j * w + i)))

  -- "swapping two inputs equals changing weight k to 16 minus k"
  pub swap_weight_block : (k : ℤ) → WAvgAnswer deep depth dst ds tmp1 tmp2 w h k r d → WAvgAnswer deep depth dst ds tmp2 tmp1 w h (pos 16 -ℤ k) r' d'
      → (r ≡ r') × (d ≡ d')
  swap_weight_block k =
      same_answer dst
      (swap_tests (length dst) ds (length tmp1) (length tmp2) w h (deep && weight_ok k) true
      ∙ ap (λ (t : Bool). lowest (combine_tests (length dst) ds (length tmp2) (length tmp1) w h (deep && t) true)) (partner_ok k))
      λ _. swap_fill (max_of depth) (bits_of depth) (bias_of depth) dst ds tmp1 tmp2 w h k

  -- "for k from 0 to 32, a mask of 4k everywhere equals weight k": the same number, the same destination, where the mask holds the block
  pub mask_weight_block : (mask : List ℕ) (k : ℕ) → k ≤ 32 → Everywhere (4 * k) mask w h → holds_all (length mask) w h ≡ true
      → MaskAnswer deep depth dst ds tmp1 tmp2 w h mask r d → WAvgAnswer deep depth dst ds tmp1 tmp2 w h (pos k) r' d' → (r ≡ r') × (d ≡ d')
  mask_weight_block mask k h32 all held =
      same_answer dst (mask_tests_lem deep (length dst) ds (length tmp1) (length tmp2) w h (length mask) k held h32) λ z.
      let p = mask_ready z in
      even-fill (max_of depth) (bits_of depth) (bias_of depth) dst ds tmp1 tmp2 w h mask w k (omega arith) all

  -- so where the mask's call is accepted, the weight's is, with the same destination
  pub mask_weight_done : (mask : List ℕ) (k : ℕ) → k ≤ 32 → Everywhere (4 * k) mask w h
      → MaskAnswer deep depth dst ds tmp1 tmp2 w h mask r d → r ≡ 0 → WAvgAnswer deep depth dst ds tmp1 tmp2 w h (pos k) r' d' → (r' ≡ 0) × (d ≡ d')
  unfolding holds
  mask_weight_done mask k h32 all a z b =
      let p = mask_ready (sym a.0 ∙ z) in
      let q = mask_weight_block mask k h32 all (le-leb _ _ p.1.4.fits) a b in
      (sym q.0 ∙ z, q.1)
