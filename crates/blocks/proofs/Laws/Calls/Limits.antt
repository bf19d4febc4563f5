-- "Limits: w 64 accepted, 65 is number 1; matrix[2] of 1 accepted, 0 is number 8." Assumes nothing.
use Rattle.blocks.proofs.Usual.{true, false, List, [], ◌∷◌, ◌≡◌, refl, pos, ℤ, negsuc, lowest, block_side, holds, stride_ok, size_ok, need}
use Rattle.blocks.specs.Copy.{put_tests}
use Rattle.blocks.specs.Shear.{recip_ok, entries_ok, shear_tests}

-- every entry with a block tests its sides so
side_64 : size_ok block_side 64 ≡ true
unfolding size_ok
side_64 = refl

side_65 : size_ok block_side 65 ≡ false
unfolding size_ok
side_65 = refl

-- a block of one row, w wide, in buffers that hold just that
put_64 : lowest (put_tests 64 64 64 64 64 1) ≡ 0
unfolding need size_ok stride_ok holds
put_64 = refl

put_65 : lowest (put_tests 65 65 65 65 65 1) ≡ 1
unfolding need size_ok stride_ok holds
put_65 = refl

-- a matrix that is the identity but for entry 2
abbrev matrix_of : ℤ → List ℤ
matrix_of m2 = pos 0 ∷ pos 0 ∷ m2 ∷ pos 0 ∷ pos 0 ∷ pos 65536 ∷ []

matrix_1 : lowest (shear_tests (matrix_of (pos 1)) 129) ≡ 0
unfolding need entries_ok recip_ok
matrix_1 = refl

matrix_0 : lowest (shear_tests (matrix_of (pos 0)) 129) ≡ 8
unfolding need entries_ok recip_ok
matrix_0 = refl

-- the lowest number counts: an entry out of range, a short table and entry 2 at 0 together are 3
lowest-first : lowest (shear_tests (pos 0 ∷ pos 0 ∷ pos 0 ∷ pos 0 ∷ pos 0 ∷ negsuc 4194304 ∷ []) 128) ≡ 3
unfolding need entries_ok recip_ok
lowest-first = refl
