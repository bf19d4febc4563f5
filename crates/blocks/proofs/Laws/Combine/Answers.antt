-- avg, w_avg and mask: an answer is the only one, and calls are accepted. Assumes nothing.
use Rattle.blocks.proofs.Usual.{true, Bool, List, ◌≡◌, refl, ℕ, pos, ℤ, negsuc, lowest, holds, stride_ok, size_ok, need, unique}
use Rattle.blocks.specs.words.Depth.{depth_ok}
use Rattle.blocks.specs.Combine.{avg_tests, w_avg_tests, mask_tests, weight_ok, AvgAnswer, WAvgAnswer, MaskAnswer}

module _ (deep : Bool) (depth : ℕ) (dst : List ℕ) (ds : ℕ) (tmp1 tmp2 : List ℤ) (w h : ℕ) {r r' : ℕ} {d d' : List ℕ} where
  pub avg_unique : AvgAnswer deep depth dst ds tmp1 tmp2 w h r d → AvgAnswer deep depth dst ds tmp1 tmp2 w h r' d' → (r ≡ r') × (d ≡ d')
  avg_unique a b = unique _ _ a b

  pub w-avg_unique : (k : ℤ) → WAvgAnswer deep depth dst ds tmp1 tmp2 w h k r d → WAvgAnswer deep depth dst ds tmp1 tmp2 w h k r' d' → (r ≡ r') × (d ≡ d')
  w-avg_unique k a b = unique _ _ a b

  pub mask_unique : (m : List ℕ) → MaskAnswer deep depth dst ds tmp1 tmp2 w h m r d → MaskAnswer deep depth dst ds tmp1 tmp2 w h m r' d' → (r ≡ r') × (d ≡ d')
  mask_unique m a b = unique _ _ a b

-- ---- calls that are accepted: one pixel, of bytes and of depth 10; the ends of the weight
avg_accepts : (lowest (avg_tests true 1 1 1 1 1 1) ≡ 0) × (lowest (avg_tests (depth_ok (pos 10)) 1 1 1 1 1 1) ≡ 0)
unfolding need size_ok stride_ok holds depth_ok
avg_accepts = (refl, refl)

w-avg_accepts : (lowest (w_avg_tests true 1 1 1 1 1 1 (negsuc 15)) ≡ 0) × (lowest (w_avg_tests (depth_ok (pos 10)) 1 1 1 1 1 1 (pos 32)) ≡ 0)
unfolding need size_ok stride_ok holds depth_ok weight_ok
w-avg_accepts = (refl, refl)

mask_accepts : (lowest (mask_tests true 1 1 1 1 1 1 1) ≡ 0) × (lowest (mask_tests (depth_ok (pos 10)) 1 1 1 1 1 1 1) ≡ 0)
unfolding need size_ok stride_ok holds depth_ok
mask_accepts = (refl, refl)
