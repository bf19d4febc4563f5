-- The warp model's and warp's answers: each is the only one, and there is a call that is accepted. Assumes nothing.
use Rattle.blocks.proofs.Usual.{true, Bool, List, [], ◌∷◌, ◌≡◌, ◌∙◌, refl, sym, ap, ℕ, pos, ℤ, negsuc, bits_of, max_of, bias_of, fill, around, lowest}
use Rattle.blocks.proofs.Usual.{holds, stride_ok, need, or_same, reads, whole_filters, unique_of}
use lib.ListN.{replicate}
use Rattle.rows.specs.Numbers.{low32}
use Rattle.rows.specs.Shear.{Q, g, top_below, recip_place, recip_of, shift_of, shear_a, shear_b, shear_c, shear_d, affine_of, middle, offset_of, entry0, entry1}
use Rattle.rows.specs.Warp.{filter_no, is_there, every, all_there, warp_put, warp_prep}
use Rattle.blocks.specs.Shear.{recip_ok, divisor_of, entries_ok, shear_tests, sheared, ShearAnswer, affine_mv_tests, with_mv, AffineMvAnswer}
use Rattle.blocks.specs.Warp.{warp_place_ok, warp_tests, WarpAnswer, WarpTAnswer}
use Rattle.blocks.specs.declared.shear.Divisor.{Divisor}
use Rattle.blocks.specs.declared.shear.WarpParams.{WarpParams}

pub divisor_unique : (d : ℕ) (recip : List ℕ) {r r' : ℕ} {y y' k k' : ℤ}
    → ◌≡◌ {A = Divisor} (record { number = r; y = y; shift = k }) (divisor_of d recip)
    → ◌≡◌ {A = Divisor} (record { number = r'; y = y'; shift = k' }) (divisor_of d recip)
    → (r ≡ r') × (y ≡ y') × (k ≡ k')
divisor_unique d recip p q =
    let e = p ∙ sym q in
    (ap (λ (x : Divisor). x.number) e, ap (λ (x : Divisor). x.y) e, ap (λ (x : Divisor). x.shift) e)

pub shear_unique : (wm : WarpParams) (recip : List ℕ) {r r' : ℕ} {w w' : WarpParams}
    → ShearAnswer wm recip r w → ShearAnswer wm recip r' w' → (r ≡ r') × (w ≡ w')
shear_unique wm recip p q = unique_of _ (λ n. or_same n (sheared wm recip) wm) p q

pub affine_mv_unique : (bw4 bh4 mvx mvy : ℤ) (m : List ℤ) (bx4 by4 : ℤ) {r r' : ℕ} {n n' : List ℤ}
    → AffineMvAnswer bw4 bh4 mvx mvy m bx4 by4 r n → AffineMvAnswer bw4 bh4 mvx mvy m bx4 by4 r' n' → (r ≡ r') × (n ≡ n')
affine_mv_unique bw4 bh4 mvx mvy m bx4 by4 p q = unique_of _ (λ k. or_same k (with_mv bw4 bh4 mvx mvy m bx4 by4) m) p q

module _ (deep : Bool) (depth : ℕ) (ds : ℕ) (src : List ℕ) (ss off : ℕ) (a b c d mx my : ℤ) (t : List ℤ) where
  pub warp_unique : (dst : List ℕ) {r r' : ℕ} {e e' : List ℕ}
      → WarpAnswer deep depth dst ds src ss off a b c d mx my t r e → WarpAnswer deep depth dst ds src ss off a b c d mx my t r' e' → (r ≡ r') × (e ≡ e')
  warp_unique dst p q =
      unique_of _ (λ n. or_same n (fill dst ds 8 8 (λ i j. warp_put (max_of depth) (bits_of depth) t mx my a b c d i j (around 3 src off ss i j))) dst) p q

  pub warp_t_unique : (tmp : List ℤ) {r r' : ℕ} {e e' : List ℤ}
      → WarpTAnswer deep depth tmp ds src ss off a b c d mx my t r e → WarpTAnswer deep depth tmp ds src ss off a b c d mx my t r' e' → (r ≡ r') × (e ≡ e')
  warp_t_unique tmp p q =
      unique_of _ (λ n. or_same n (fill tmp ds 8 8 (λ i j. warp_prep (bits_of depth) (bias_of depth) t mx my a b c d i j (around 3 src off ss i j))) tmp) p q

-- ---- calls that are accepted: d = 3, whose reciprocal is at place 64, with every reciprocal 16384
divisor_accepts : divisor_of 3 (replicate 129 16384) ≡ record { number = 0; y = pos 16384; shift = pos 10 }
unfolding need recip_ok divisor_of or_same recip_of recip_place shift_of top_below
divisor_accepts = refl

-- m2 = 65536 + 640, m3 = 320, m4 = -1000, m5 = 65536
abbrev entries : List ℤ
entries = pos 0 ∷ pos 0 ∷ pos 66176 ∷ pos 320 ∷ negsuc 999 ∷ pos 65536 ∷ []

shear_accepts : lowest (shear_tests entries 129) ≡ 0
unfolding need entries_ok recip_ok
shear_accepts = refl

sheared-is : sheared (record { matrix = entries; abcd = []; affine = pos 0 }) (replicate 129 16384)
    ≡ record { matrix = entries; abcd = pos 640 ∷ pos 320 ∷ negsuc 31999 ∷ pos 128 ∷ []; affine = pos 1 }
unfolding sheared recip_of recip_place shift_of top_below shear_a shear_b shear_c shear_d affine_of Q g low32
sheared-is = refl

-- a block of 4 x 4 at the first place, moved by one: X = Y = 1
affine_mv_accepts : lowest (affine_mv_tests (pos 1) (pos 1) (pos 1) (pos 0) entries (pos 0) (pos 0)) ≡ 0
unfolding need entries_ok
affine_mv_accepts = refl

with_mv_is : with_mv (pos 1) (pos 1) (pos 1) (pos 0) entries (pos 0) (pos 0) ≡ pos 7232 ∷ pos 1000 ∷ pos 66176 ∷ pos 320 ∷ negsuc 999 ∷ pos 65536 ∷ []
unfolding with_mv middle entry0 entry1 offset_of
with_mv_is = refl

-- a source of 15 x 15, the block's first pixel at column 3 of row 3, and a table that ends with filter 192
warp_accepts : lowest (warp_tests true 64 8 225 15 48 (pos 0) (pos 0) (pos 0) (pos 0) (pos 0) (pos 0) 1544) ≡ 0
unfolding need stride_ok holds reads whole_filters warp_place_ok all_there every is_there filter_no
warp_accepts = refl

-- with one filter less, one of the 184 isn't there
warp-short : lowest (warp_tests true 64 8 225 15 48 (pos 0) (pos 0) (pos 0) (pos 0) (pos 0) (pos 0) 1536) ≡ 4
unfolding need stride_ok holds reads whole_filters warp_place_ok all_there every is_there filter_no
warp-short = refl
