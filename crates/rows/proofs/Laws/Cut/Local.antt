-- What a kernel's pixel rule reads: the pixels around its place for columns and rows below 8 (8-tap, warp), below 2 (bilinear), the pixel itself (copy).
-- So two pictures that agree there give the same pixel. Assumes nothing.
use Rattle.rows.proofs.Usual.{List, ◌≡◌, ap, ap₂, ◌-◌, ◌+◌, ◌<◌, ◌^◌, ℕ, suc, zero, arith, pos, ℤ, ◌+ℤ◌, clip, minus16, low16}
use Rattle.rows.specs.Numbers.{◌>>◌}
use Rattle.rows.specs.Copy.{prep}
use Rattle.rows.specs.Subpel.{Axis, whole, by, mid, put8, prep8}
use Rattle.rows.specs.Bilinear.{bilin, R, along, down, bilin_mid, put_bilin, prep_bilin}
use Rattle.rows.specs.Warp.{warped, warp_mid, warp_put, warp_prep}
use Rattle.rows.proofs.Laws.Filters.Taps.{tapped_same}

-- pictures that agree for columns and rows below n
abbrev pub Agree : ℕ → (q p : ℕ → ℕ → ℕ) → Type 0
Agree n q p = (a b : ℕ) → a < n → b < n → q a b ≡ p a b

module _ (q p : ℕ → ℕ → ℕ) where
  -- ---- 8-tap

  mid_local : (B N : ℕ) (f : List ℤ) → Agree 8 q p → (b : ℕ) → b < 8 → mid B N f q b ≡ mid B N f p b
  unfolding mid
  mid_local B N f e b h = ap low16 (tapped_same f _ (N - B) _ _ λ a k. ap pos (e a b k h))

  pub put8_local : (M B N : ℕ) (f g : Axis) → Agree 8 q p → put8 M B N f g q ≡ put8 M B N f g p
  unfolding put8
  put8_local M B N whole whole e = e 3 3 (omega arith) (omega arith)
  put8_local M B N (by f) whole e = ap (clip M) (tapped_same f _ N _ _ λ a k. ap pos (e a 3 k (omega arith)))
  put8_local M B N whole (by g) e = ap (clip M) (tapped_same g _ N _ _ λ b k. ap pos (e 3 b (omega arith) k))
  put8_local M B N (by f) (by g) e = ap (clip M) (tapped_same g _ (N + B) _ _ λ b k. mid_local B N f e b k)

  pub prep8_local : (B P N : ℕ) (f g : Axis) → Agree 8 q p → prep8 B P N f g q ≡ prep8 B P N f g p
  unfolding prep8
  prep8_local B P N whole whole e = ap (prep B P) (e 3 3 (omega arith) (omega arith))
  prep8_local B P N (by f) whole e = ap (λ (v : ℤ). minus16 (low16 v) (pos P)) (tapped_same f _ (N - B) _ _ λ a k. ap pos (e a 3 k (omega arith)))
  prep8_local B P N whole (by g) e = ap (λ (v : ℤ). minus16 (low16 v) (pos P)) (tapped_same g _ (N - B) _ _ λ b k. ap pos (e 3 b (omega arith) k))
  prep8_local B P N (by f) (by g) e = ap (λ (v : ℤ). minus16 (low16 v) (pos P)) (tapped_same g _ N _ _ λ b k. mid_local B N f e b k)

  -- ---- bilinear

  along_local : (f : ℕ) → Agree 2 q p → (b : ℕ) → b < 2 → along f q b ≡ along f p b
  unfolding along
  along_local f e b h = ap₂ (λ (u v : ℕ). bilin (pos u) (pos v) f) (e 0 b (omega arith) h) (e 1 b (omega arith) h)

  down_local : (f : ℕ) → Agree 2 q p → down f q ≡ down f p
  unfolding down
  down_local f e = ap₂ (λ (u v : ℕ). bilin (pos u) (pos v) f) (e 0 0 (omega arith) (omega arith)) (e 0 1 (omega arith) (omega arith))

  both_local : (B f g : ℕ) → Agree 2 q p → bilin (bilin_mid B f q 0) (bilin_mid B f q 1) g ≡ bilin (bilin_mid B f p 0) (bilin_mid B f p 1) g
  unfolding bilin_mid
  both_local B f g e =
      ap₂ (λ (u v : ℤ). bilin (low16 (R (4 - B) u)) (low16 (R (4 - B) v)) g) (along_local f e 0 (omega arith)) (along_local f e 1 (omega arith))

  pub put_bilin_local : (M B f g : ℕ) → Agree 2 q p → put_bilin M B f g q ≡ put_bilin M B f g p
  unfolding put_bilin
  put_bilin_local M B zero zero e = e 0 0 (omega arith) (omega arith)
  put_bilin_local M B (suc f) zero e = ap (λ (v : ℤ). clip M (R (4 - B) v +ℤ pos (2 ^ (B - 1)) >> B)) (along_local (suc f) e 0 (omega arith))
  put_bilin_local M B zero (suc g) e = ap (λ (v : ℤ). clip M (R 4 v)) (down_local (suc g) e)
  put_bilin_local M B (suc f) (suc g) e = ap (λ (v : ℤ). clip M (R (4 + B) v)) (both_local B (suc f) (suc g) e)

  pub prep_bilin_local : (B P f g : ℕ) → Agree 2 q p → prep_bilin B P f g q ≡ prep_bilin B P f g p
  unfolding prep_bilin
  prep_bilin_local B P zero zero e = ap (prep B P) (e 0 0 (omega arith) (omega arith))
  prep_bilin_local B P (suc f) zero e = ap (λ (v : ℤ). minus16 (low16 (R (4 - B) v)) (pos P)) (along_local (suc f) e 0 (omega arith))
  prep_bilin_local B P zero (suc g) e = ap (λ (v : ℤ). minus16 (low16 (R (4 - B) v)) (pos P)) (down_local (suc g) e)
  prep_bilin_local B P (suc f) (suc g) e = ap (λ (v : ℤ). minus16 (low16 (R 4 v)) (pos P)) (both_local B (suc f) (suc g) e)

  -- ---- warp

  warp_local : (B n : ℕ) (table : List ℤ) (mx my a b c d : ℤ) (i j : ℕ) → Agree 8 q p
      → warped table my c d n j i (warp_mid B table mx a b i j q) ≡ warped table my c d n j i (warp_mid B table mx a b i j p)
  unfolding warped warp_mid
  warp_local B n table mx my a b c d i j e = tapped_same _ _ n _ _ λ v h. ap low16 (tapped_same _ _ (7 - B) _ _ λ u k. ap pos (e u v k h))

  pub warp_put_local : (M B : ℕ) (table : List ℤ) (mx my a b c d : ℤ) (i j : ℕ) → Agree 8 q p
      → warp_put M B table mx my a b c d i j q ≡ warp_put M B table mx my a b c d i j p
  unfolding warp_put
  warp_put_local M B table mx my a b c d i j e = ap (λ (v : ℤ). clip M (low16 v)) (warp_local B (7 + B) table mx my a b c d i j e)

  pub warp_prep_local : (B P : ℕ) (table : List ℤ) (mx my a b c d : ℤ) (i j : ℕ) → Agree 8 q p
      → warp_prep B P table mx my a b c d i j q ≡ warp_prep B P table mx my a b c d i j p
  unfolding warp_prep
  warp_prep_local B P table mx my a b c d i j e = ap (λ (v : ℤ). minus16 (low16 v) (pos P)) (warp_local B 7 table mx my a b c d i j e)
