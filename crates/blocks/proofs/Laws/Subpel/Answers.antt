-- 8-tap: an answer is the only one, and calls are accepted; the limits of what is read. Assumes nothing.
use Rattle.blocks.proofs.Usual.{true, Bool, List, ◌≡◌, refl, ℕ, pos, ℤ, negsuc, lowest, holds, stride_ok, size_ok, need, reads, whole_filters, unique}
use Rattle.blocks.specs.words.Depth.{depth_ok}
use Rattle.blocks.specs.Subpel.{type_ok, sixteenth_ok, fraction_ok, subpel_ok, filter_in, subpel_tests, Put8Answer, Prep8Answer}

-- ---- two results that meet one answer are equal
module _ (deep : Bool) (depth ds : ℕ) (src : List ℕ) (o ss w h : ℕ) (mx my t : ℤ) (subpel ext : List ℤ) {r r' : ℕ} where
  put8_unique : (dst : List ℕ) {d d' : List ℕ} → Put8Answer deep depth dst ds src o ss w h mx my t subpel ext r d
      → Put8Answer deep depth dst ds src o ss w h mx my t subpel ext r' d' → (r ≡ r') × (d ≡ d')
  put8_unique dst p q = unique _ _ p q

  prep8_unique : (tmp : List ℤ) {d d' : List ℤ} → Prep8Answer deep depth tmp ds src o ss w h mx my t subpel ext r d
      → Prep8Answer deep depth tmp ds src o ss w h mx my t subpel ext r' d' → (r ≡ r') × (d ≡ d')
  prep8_unique tmp p q = unique _ _ p q

-- ---- a block of 8 x 8 with both filters, in a source of 15 x 15 that begins at the first tap: put and prep have the same tests
abbrev both : (deep : Bool) (sl o : ℕ) (t : ℤ) (el : ℕ) → ℕ
both deep sl o t el = lowest (subpel_tests deep 64 8 sl o 15 8 8 (pos 4) (pos 6) t 600 el)

accepted_8 : both true 225 48 (pos 0) 0 ≡ 0
unfolding need size_ok stride_ok holds reads whole_filters type_ok sixteenth_ok fraction_ok subpel_ok filter_in
accepted_8 = refl

accepted_16 : both (depth_ok (pos 12)) 225 48 (negsuc 0) 48 ≡ 0
unfolding need size_ok stride_ok holds reads depth_ok whole_filters type_ok sixteenth_ok fraction_ok subpel_ok filter_in
accepted_16 = refl

-- one place less at either end, an offset near 2^64, a filter less in ext
one_less : both true 224 48 (pos 0) 0 ≡ 5
unfolding need size_ok stride_ok holds reads whole_filters type_ok sixteenth_ok fraction_ok subpel_ok filter_in
one_less = refl

one-before : both true 225 47 (pos 0) 0 ≡ 5
unfolding need size_ok stride_ok holds reads whole_filters type_ok sixteenth_ok fraction_ok subpel_ok filter_in
one-before = refl

far_off : both true 225 18446744073709551615 (pos 0) 0 ≡ 5
unfolding need size_ok stride_ok holds reads whole_filters type_ok sixteenth_ok fraction_ok subpel_ok filter_in
far_off = refl

filter_less : both true 225 48 (negsuc 0) 40 ≡ 4
unfolding need size_ok stride_ok holds reads whole_filters type_ok sixteenth_ok fraction_ok subpel_ok filter_in
filter_less = refl

-- a table's length is tested where no fraction asks for a filter
whole-table : lowest (subpel_tests true 64 8 64 0 8 8 8 (pos 0) (pos 0) (pos 0) 720 0) ≡ 4
unfolding need size_ok stride_ok holds reads whole_filters type_ok sixteenth_ok fraction_ok subpel_ok filter_in
whole-table = refl
