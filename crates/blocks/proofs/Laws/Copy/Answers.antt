-- put and prep: an answer is the only one, and calls are accepted. Assumes nothing.
use Rattle.blocks.proofs.Usual.{true, Bool, List, ◌≡◌, refl, ℕ, pos, ℤ, lowest, holds, stride_ok, size_ok, need, unique}
use Rattle.blocks.specs.words.Depth.{depth_ok}
use Rattle.blocks.specs.Copy.{put_tests, prep_tests, PutAnswer, PrepAnswer}

pub put_unique : (dst : List ℕ) (ds : ℕ) (src : List ℕ) (ss w h : ℕ) {r r' : ℕ} {d d' : List ℕ}
    → PutAnswer dst ds src ss w h r d → PutAnswer dst ds src ss w h r' d' → (r ≡ r') × (d ≡ d')
put_unique dst ds src ss w h a b = unique _ _ a b

pub prep_unique : (deep : Bool) (depth : ℕ) (tmp : List ℤ) (ts : ℕ) (src : List ℕ) (ss w h : ℕ) {r r' : ℕ} {t t' : List ℤ}
    → PrepAnswer deep depth tmp ts src ss w h r t → PrepAnswer deep depth tmp ts src ss w h r' t' → (r ≡ r') × (t ≡ t')
prep_unique deep depth tmp ts src ss w h a b = unique _ _ a b

-- ---- calls that are accepted: one pixel, of bytes and of depth 10
put_accepts : lowest (put_tests 1 1 1 1 1 1) ≡ 0
unfolding need size_ok stride_ok holds
put_accepts = refl

prep_accepts : (lowest (prep_tests true 1 1 1 1 1 1) ≡ 0) × (lowest (prep_tests (depth_ok (pos 10)) 1 1 1 1 1 1) ≡ 0)
unfolding need size_ok stride_ok holds depth_ok
prep_accepts = (refl, refl)
