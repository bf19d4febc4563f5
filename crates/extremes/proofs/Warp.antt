-- With no shear every filter of a warp is the 192nd.
use Rattle.std.proofs.Common.{◌≡◌, ℕ, true, pos}
use Rattle.std.proofs.Math.Nat.{mul-zero}
use Rattle.rows.specs.Warp.{filter_no, is_there}

-- it is the last of 193
pub there : (r c : ℕ) → is_there 193 (filter_no (pos 0) (pos 0) (pos 0) r c) ≡ true
unfolding is_there filter_no
there r c = rw (mul-zero c, mul-zero r)
