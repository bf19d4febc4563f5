-- Bilinear: an answer is the only one, and calls are accepted. Assumes nothing.
use Rattle.blocks.proofs.Usual.{true, Bool, List, ◌≡◌, refl, ℕ, pos, ℤ, lowest, holds, stride_ok, size_ok, need, reads, unique}
use Rattle.blocks.specs.words.Depth.{depth_ok}
use Rattle.blocks.specs.Subpel.{sixteenth_ok}
use Rattle.blocks.specs.Bilinear.{bilin_tests, PutBilinAnswer, PrepBilinAnswer}

module _ (deep : Bool) (depth : ℕ) (src : List ℕ) (s ds w h : ℕ) (mx my : ℤ) {r r' : ℕ} where
  pub put-bilin_unique : (dst : List ℕ) {d d' : List ℕ}
      → PutBilinAnswer deep depth dst ds src s w h mx my r d → PutBilinAnswer deep depth dst ds src s w h mx my r' d' → (r ≡ r') × (d ≡ d')
  put-bilin_unique dst p q = unique _ _ p q

  pub prep-bilin_unique : (tmp : List ℤ) {d d' : List ℤ}
      → PrepBilinAnswer deep depth tmp ds src s w h mx my r d → PrepBilinAnswer deep depth tmp ds src s w h mx my r' d' → (r ≡ r') × (d ≡ d')
  prep-bilin_unique tmp p q = unique _ _ p q

-- not vacuous: a block of 2 x 2 between 3 x 3 pixels is accepted, of bytes and at depth 10
accepted_8 : lowest (bilin_tests true 4 2 9 3 2 2 (pos 8) (pos 8)) ≡ 0
unfolding need size_ok stride_ok sixteenth_ok reads holds
accepted_8 = refl

accepted_16 : lowest (bilin_tests (depth_ok (pos 10)) 4 2 9 3 2 2 (pos 8) (pos 8)) ≡ 0
unfolding need size_ok stride_ok depth_ok sixteenth_ok reads holds
accepted_16 = refl
