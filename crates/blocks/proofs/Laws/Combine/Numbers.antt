-- The numbers of a call's depth, as its rows get them. Assumes nothing.
use Rattle.blocks.proofs.Usual.{◌≡◌, ℕ, bits_of, bias_of, max_of, numbers_of}
use Rattle.blocks.specs.declared.refuse.DepthNumbers.{DepthNumbers}

-- what `Sample::depth_numbers` answers
pub numbers_given : (bits_ok bias_ok max_ok : ℕ → Type 0) {d : DepthNumbers} (depth : ℕ) → d ≡ numbers_of depth
    → bits_ok (bits_of depth) → bias_ok (bias_of depth) → max_ok (max_of depth) → bits_ok d.bits × bias_ok d.bias × max_ok d.max
numbers_given bits_ok bias_ok max_ok depth is bits bias max = rw is (bits, bias, max)
