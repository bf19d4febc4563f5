-- Scaled blocks: an answer is the only one, and calls are accepted; the limits of the numbers and of what is read. Assumes nothing.
use Rattle.blocks.proofs.Usual.{true, Bool, false, List, ◌≡◌, refl, ℕ, pos, ℤ, negsuc, lowest, holds, stride_ok, size_ok, need, reads, unique}
use Rattle.blocks.specs.words.Depth.{depth_ok}
use Rattle.blocks.specs.Subpel.{subpel_ok}
use Rattle.rows.specs.Warp.{every}
use Rattle.blocks.specs.Scaled.{start_ok, step_ok, scaled_type_ok, column_read, reads_scaled, scaled_tests}
use Rattle.blocks.specs.Scaled.{Put8ScaledAnswer, Prep8ScaledAnswer, PutBilinScaledAnswer, PrepBilinScaledAnswer}

-- ---- two results that meet one answer are equal
module _ (deep : Bool) (depth ds : ℕ) (src : List ℕ) (o ss w h : ℕ) (mx my dx dy : ℤ) {r r' : ℕ} where
  put8_scaled_unique : (t : ℤ) (subpel : List ℤ) (dst : List ℕ) {d d' : List ℕ}
      → Put8ScaledAnswer deep depth dst ds src o ss w h mx my dx dy t subpel r d
      → Put8ScaledAnswer deep depth dst ds src o ss w h mx my dx dy t subpel r' d' → (r ≡ r') × (d ≡ d')
  put8_scaled_unique t subpel dst p q = unique _ _ p q

  prep8_scaled_unique : (t : ℤ) (subpel : List ℤ) (tmp : List ℤ) {d d' : List ℤ}
      → Prep8ScaledAnswer deep depth tmp ds src o ss w h mx my dx dy t subpel r d
      → Prep8ScaledAnswer deep depth tmp ds src o ss w h mx my dx dy t subpel r' d' → (r ≡ r') × (d ≡ d')
  prep8_scaled_unique t subpel tmp p q = unique _ _ p q

  put-bilin_scaled_unique : (dst : List ℕ) {d d' : List ℕ}
      → PutBilinScaledAnswer deep depth dst ds src o ss w h mx my dx dy r d
      → PutBilinScaledAnswer deep depth dst ds src o ss w h mx my dx dy r' d' → (r ≡ r') × (d ≡ d')
  put-bilin_scaled_unique dst p q = unique _ _ p q

  prep-bilin_scaled_unique : (tmp : List ℤ) {d d' : List ℤ}
      → PrepBilinScaledAnswer deep depth tmp ds src o ss w h mx my dx dy r d
      → PrepBilinScaledAnswer deep depth tmp ds src o ss w h mx my dx dy r' d' → (r ≡ r') × (d ≡ d')
  prep-bilin_scaled_unique tmp p q = unique _ _ p q

-- ---- a block of 8 x 8 from position 960, 320 on, at the steps 2048 and 700: it goes to pixel 14 of row 5. put and prep have the same tests

-- by 8-tap in a source of 22 x 13 that begins at the first tap
abbrev eight : (deep : Bool) (sl o : ℕ) → ℕ
eight deep sl o = lowest (scaled_tests true deep (scaled_type_ok (pos 2)) (subpel_ok 600) 64 8 sl o 22 8 8 (pos 960) (pos 320) (pos 2048) (pos 700))

accepted_8 : eight true 286 69 ≡ 0
unfolding need size_ok stride_ok holds reads start_ok step_ok scaled_type_ok subpel_ok every column_read reads_scaled
accepted_8 = refl

accepted_16 : eight (depth_ok (pos 12)) 286 69 ≡ 0
unfolding need size_ok stride_ok holds reads start_ok step_ok scaled_type_ok subpel_ok every column_read reads_scaled depth_ok
accepted_16 = refl

-- one place less at either end, and an offset near 2^64
one_less : eight true 285 69 ≡ 5
unfolding need size_ok stride_ok holds reads start_ok step_ok scaled_type_ok subpel_ok every column_read reads_scaled
one_less = refl

one-before : eight true 286 68 ≡ 5
unfolding need size_ok stride_ok holds reads start_ok step_ok scaled_type_ok subpel_ok every column_read reads_scaled
one-before = refl

far_off : eight true 286 18446744073709551615 ≡ 5
unfolding need size_ok stride_ok holds reads start_ok step_ok scaled_type_ok subpel_ok every column_read reads_scaled
far_off = refl

-- by bilinear in a source of 16 x 7 that begins at the first pixel
abbrev two : (deep : Bool) (sl o : ℕ) → ℕ
two deep sl o = lowest (scaled_tests false deep true true 64 8 sl o 16 8 8 (pos 960) (pos 320) (pos 2048) (pos 700))

bilin_accepted_8 : two true 112 0 ≡ 0
unfolding need size_ok stride_ok holds reads start_ok step_ok every column_read reads_scaled
bilin_accepted_8 = refl

bilin_accepted_16 : two (depth_ok (pos 10)) 112 0 ≡ 0
unfolding need size_ok stride_ok holds reads start_ok step_ok every column_read reads_scaled depth_ok
bilin_accepted_16 = refl

bilin-one_less : two true 111 0 ≡ 5
unfolding need size_ok stride_ok holds reads start_ok step_ok every column_read reads_scaled
bilin-one_less = refl

bilin-one-on : two true 112 1 ≡ 5
unfolding need size_ok stride_ok holds reads start_ok step_ok every column_read reads_scaled
bilin-one-on = refl

bilin_far_off : two true 112 18446744073709551615 ≡ 5
unfolding need size_ok stride_ok holds reads start_ok step_ok every column_read reads_scaled
bilin_far_off = refl

-- at a step of one pixel: from 4 and 6 sixteenths on, the source of 15 x 15 that 8-tap takes at these fractions
step_accepted : lowest (scaled_tests true true (scaled_type_ok (pos 0)) (subpel_ok 600) 64 8 225 48 15 8 8 (pos 256) (pos 384) (pos 1024) (pos 1024)) ≡ 0
unfolding need size_ok stride_ok holds reads start_ok step_ok scaled_type_ok subpel_ok every column_read reads_scaled
step_accepted = refl

-- ---- the limits of the numbers: two rows of w columns, in a destination and a source that hold all that these calls use
abbrev numbers : (w : ℕ) (mx my dx dy t : ℤ) (tl : ℕ) → ℕ
numbers w mx my dx dy t tl = lowest (scaled_tests true true (scaled_type_ok t) (subpel_ok tl) 130 65 1040 198 65 w 2 mx my dx dy)

-- starts of 1023, steps of 4096 and type 2 are accepted, and 0 for each
most : numbers 2 (pos 1023) (pos 1023) (pos 4096) (pos 4096) (pos 2) 600 ≡ 0
unfolding need size_ok stride_ok holds reads start_ok step_ok scaled_type_ok subpel_ok every column_read reads_scaled
most = refl

least : numbers 2 (pos 0) (pos 0) (pos 0) (pos 0) (pos 0) 600 ≡ 0
unfolding need size_ok stride_ok holds reads start_ok step_ok scaled_type_ok subpel_ok every column_read reads_scaled
least = refl

-- one more, or one less than 0
start_across : numbers 2 (pos 1024) (pos 0) (pos 1024) (pos 1024) (pos 0) 600 ≡ 3
unfolding need size_ok stride_ok holds reads start_ok step_ok scaled_type_ok subpel_ok every column_read reads_scaled
start_across = refl

start_down : numbers 2 (pos 0) (pos 1024) (pos 1024) (pos 1024) (pos 0) 600 ≡ 3
unfolding need size_ok stride_ok holds reads start_ok step_ok scaled_type_ok subpel_ok every column_read reads_scaled
start_down = refl

start_below : numbers 2 (negsuc 0) (pos 0) (pos 1024) (pos 1024) (pos 0) 600 ≡ 3
unfolding need size_ok stride_ok holds reads start_ok step_ok scaled_type_ok subpel_ok every column_read reads_scaled
start_below = refl

step_across : numbers 2 (pos 0) (pos 0) (pos 4097) (pos 1024) (pos 0) 600 ≡ 3
unfolding need size_ok stride_ok holds reads start_ok step_ok scaled_type_ok subpel_ok every column_read reads_scaled
step_across = refl

step_down : numbers 2 (pos 0) (pos 0) (pos 1024) (pos 4097) (pos 0) 600 ≡ 3
unfolding need size_ok stride_ok holds reads start_ok step_ok scaled_type_ok subpel_ok every column_read reads_scaled
step_down = refl

step_below : numbers 2 (pos 0) (pos 0) (pos 1024) (negsuc 0) (pos 0) 600 ≡ 3
unfolding need size_ok stride_ok holds reads start_ok step_ok scaled_type_ok subpel_ok every column_read reads_scaled
step_below = refl

-- "Types 0 to 2 only": -1, which 8-tap has, isn't one
type_ext : numbers 2 (pos 0) (pos 0) (pos 1024) (pos 1024) (negsuc 0) 600 ≡ 3
unfolding need size_ok stride_ok holds reads start_ok step_ok scaled_type_ok subpel_ok every column_read reads_scaled
type_ext = refl

type_3 : numbers 2 (pos 0) (pos 0) (pos 1024) (pos 1024) (pos 3) 600 ≡ 3
unfolding need size_ok stride_ok holds reads start_ok step_ok scaled_type_ok subpel_ok every column_read reads_scaled
type_3 = refl

-- the table's length is tested where no fraction asks for a filter
whole-table : numbers 2 (pos 0) (pos 0) (pos 1024) (pos 1024) (pos 0) 720 ≡ 4
unfolding need size_ok stride_ok holds reads start_ok step_ok scaled_type_ok subpel_ok every column_read reads_scaled
whole-table = refl

wide_64 : numbers 64 (pos 0) (pos 0) (pos 0) (pos 0) (pos 0) 600 ≡ 0
unfolding need size_ok stride_ok holds reads start_ok step_ok scaled_type_ok subpel_ok every column_read reads_scaled
wide_64 = refl

wide_65 : numbers 65 (pos 0) (pos 0) (pos 0) (pos 0) (pos 0) 600 ≡ 1
unfolding need size_ok stride_ok holds reads start_ok step_ok scaled_type_ok subpel_ok every column_read reads_scaled
wide_65 = refl

-- ---- the least and the greatest pixel of a row needn't be those of the first and the last column: one row of two columns, in a source of 8 x 8
abbrev pair : (sl o : ℕ) (mx dx : ℤ) → ℕ
pair sl o mx dx = lowest (scaled_tests true true (scaled_type_ok (pos 0)) (subpel_ok 600) 2 2 sl o 8 2 1 mx (pos 0) dx (pos 0))

-- from 960 at a step of 64, column 1 is in pixel 1 at fraction 0, which is read alone; column 0 is in pixel 0, and reads up to pixel 4
last_alone : column_read true 61 27 8 1 1024 ≡ true
unfolding reads column_read
last_alone = refl

first_too : column_read true 61 27 8 1 960 ≡ false
unfolding reads column_read
first_too = refl

-- so what would do for column 1 doesn't, nor does one place less than column 0 reads
greatest_short : pair 61 27 (pos 960) (pos 64) ≡ 5
unfolding need size_ok stride_ok holds reads start_ok step_ok scaled_type_ok subpel_ok every column_read reads_scaled
greatest_short = refl

greatest_less : pair 63 27 (pos 960) (pos 64) ≡ 5
unfolding need size_ok stride_ok holds reads start_ok step_ok scaled_type_ok subpel_ok every column_read reads_scaled
greatest_less = refl

greatest_first : pair 64 27 (pos 960) (pos 64) ≡ 0
unfolding need size_ok stride_ok holds reads start_ok step_ok scaled_type_ok subpel_ok every column_read reads_scaled
greatest_first = refl

-- from 0 at a step of 1088, column 0 is in pixel 0 at fraction 0; column 1 is in pixel 1, and reads from pixel -2 on
first_alone : column_read true 64 24 8 1 0 ≡ true
unfolding reads column_read
first_alone = refl

last_too : column_read true 64 24 8 1 1088 ≡ false
unfolding reads column_read
last_too = refl

-- so an offset that would do for column 0 doesn't, nor does one less than column 1 reads
least-short : pair 64 24 (pos 0) (pos 1088) ≡ 5
unfolding need size_ok stride_ok holds reads start_ok step_ok scaled_type_ok subpel_ok every column_read reads_scaled
least-short = refl

least_less : pair 64 25 (pos 0) (pos 1088) ≡ 5
unfolding need size_ok stride_ok holds reads start_ok step_ok scaled_type_ok subpel_ok every column_read reads_scaled
least_less = refl

least-last : pair 64 26 (pos 0) (pos 1088) ≡ 0
unfolding need size_ok stride_ok holds reads start_ok step_ok scaled_type_ok subpel_ok every column_read reads_scaled
least-last = refl
