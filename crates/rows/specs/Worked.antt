-- "Numbers to hold against it": C1 to C10 as one list, each with the numbers that the definitions give and those that document 01 states.
-- "Depth 8 unless stated." Assumes nothing.
use Rattle.std.specs.Prelude.{ℕ, zero, suc, ℤ, pos, negsuc, replicate, true, false, List, [], ◌∷◌, map}
use Rattle.rows.specs.Depth.{bits_of, bias_of, max_of}
use Rattle.rows.specs.Places.{fill}
use Rattle.rows.specs.Combine.{avg, weighted}
use Rattle.rows.specs.Subpel.{Axis, put8, prep8, whole, by}
use Rattle.rows.specs.Bilinear.{put_bilin}
use Rattle.rows.specs.WMask.{weight_of, mask_at}
use Rattle.rows.specs.Edge.{edge}
use Rattle.rows.specs.Shear.{Q}

pub record Case : Type 0 where
  pub given : List ℤ
  pub stated : List ℤ

abbrev is : List ℤ → List ℤ → Case
is given stated = record { given = given; stated = stated }

-- an intermediate averaged with itself
abbrev average : ℕ → ℤ → ℕ
average depth a = avg (max_of depth) (bits_of depth) (bias_of depth) a a

-- one tap of k at the place itself, where every pixel around it is n: S is k x n
abbrev one_tap : ℕ → Axis
one_tap k = by (pos 0 ∷ pos 0 ∷ pos 0 ∷ pos k ∷ pos 0 ∷ pos 0 ∷ pos 0 ∷ pos 0 ∷ [])

abbrev puts : ℕ → Axis → Axis → ℕ
puts n h v = put8 (max_of 8) (bits_of 8) 6 h v (λ a b. n)

abbrev preps : ℕ → Axis → Axis → ℤ
preps n h v = prep8 (bits_of 8) (bias_of 8) 6 h v (λ a b. n)

-- 10 and, right of it, 21
abbrev ten_and_21 : ℕ → ℕ → ℕ
ten_and_21 zero b = 10
ten_and_21 (suc a) b = 21

-- the weights 50 and, right of it, 39
abbrev weights_50_39 : ℕ → ℕ → ℕ
weights_50_39 zero j = 50
weights_50_39 (suc i) j = 39

abbrev pub cases : List Case
cases =
    -- "C1: avg of 3200 and 3200 is 200"
    is (pos (average 8 (pos 3200)) ∷ []) (pos 200 ∷ [])
    -- "C2: depth 10, 8176 twice gives 1023"
    ∷ is (pos (average 10 (pos 8176)) ∷ []) (pos 1023 ∷ [])
    -- "C3: 3200 and 0 at weight 12 give 150"
    ∷ is (pos (weighted (max_of 8) (bits_of 8) (bias_of 8) (pos 12) (pos 3200) (pos 0)) ∷ []) (pos 150 ∷ [])
    -- "C4: weight m for differences 0, 3200, 6647, 6648 is 38, 50, 63, 64"
    ∷ is (map (λ a. pos (weight_of 8 (bits_of 8) a (pos 0))) (pos 0 ∷ pos 3200 ∷ pos 6647 ∷ pos 6648 ∷ [])) (pos 38 ∷ pos 50 ∷ pos 63 ∷ pos 64 ∷ [])
    -- "C5: weights 50 and 39, ss_hor only: 45 with sign 0, 44 with sign 1"
    ∷ is (pos (mask_at 0 true false weights_50_39 0 0) ∷ pos (mask_at 1 true false weights_50_39 0 0) ∷ []) (pos 45 ∷ pos 44 ∷ [])
    -- "C6: bilinear put of 10, 21 at horizontal 5 is 13"
    ∷ is (pos (put_bilin (max_of 8) (bits_of 8) 5 0 ten_and_21) ∷ []) (pos 13 ∷ [])
    -- "C7: S = 30, N = 6: put is 1 horizontally, 0 vertically"
    ∷ is (pos (puts 1 (one_tap 30) whole) ∷ pos (puts 1 whole (one_tap 30)) ∷ []) (pos 1 ∷ pos 0 ∷ [])
    -- "C8: second-pass S = 480, N = 6: put 0; prep 8, which averaged with itself is 1": pixels of 10, first pass 40 >> 2, second pass 48 x 10
    ∷ is (pos (puts 10 (one_tap 4) (one_tap 48)) ∷ preps 10 (one_tap 4) (one_tap 48) ∷ pos (average 8 (preps 10 (one_tap 4) (one_tap 48))) ∷ [])
    (pos 0 ∷ pos 8 ∷ pos 1 ∷ [])
    -- "C9: plane rows 1 2 3 / 4 5 6, block 4 x 3 at (-1, 0): 1 1 2 3 / 4 4 5 6 / 4 4 5 6"
    ∷ is (map pos (fill (replicate 12 0) 4 4 3 (edge (1 ∷ 2 ∷ 3 ∷ 4 ∷ 5 ∷ 6 ∷ []) 3 3 2 (negsuc 0) (pos 0))))
    (map pos (1 ∷ 1 ∷ 2 ∷ 3 ∷ 4 ∷ 4 ∷ 5 ∷ 6 ∷ 4 ∷ 4 ∷ 5 ∷ 6 ∷ []))
    -- "C10: Q of 31, 32, -31, -32, 32767 is 0, 64, 0, -64, 32704"
    ∷ is (map Q (pos 31 ∷ pos 32 ∷ negsuc 30 ∷ negsuc 31 ∷ pos 32767 ∷ [])) (pos 0 ∷ pos 64 ∷ pos 0 ∷ negsuc 63 ∷ pos 32704 ∷ [])
    ∷ []
