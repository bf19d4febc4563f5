-- `resolve_divisor_32`, `get_shear_params`, `set_affine_mv2d`: the tests of their calls, and the record as it comes back. Assumes nothing.
use Rattle.std.specs.Prelude.{ℕ, ◌-◌, ◌^◌, leb, eqb, ℤ, pos, nat_abs, length, set, Bool, ◌&&◌, List, [], ◌∷◌, ◌≡◌}
use Rattle.std.specs.Int.Signed.{lt_z}
use Rattle.rows.specs.Numbers.{at, between, is_within}
use Rattle.rows.specs.Shear.{recip_of, shift_of, shear_a, shear_b, shear_c, shear_d, affine_of, middle, entry0, entry1}
use Rattle.blocks.specs.Refuse.{Test, size, number, table, matrix, ◌asks◌, lowest, or_same}
use Rattle.blocks.specs.declared.shear.Divisor.{Divisor}
use Rattle.blocks.specs.declared.shear.WarpParams.{WarpParams}

-- "reciprocal 129 unsigned 16-bit numbers"
unfoldable pub recip_ok : ℕ → Bool
recip_ok rl = eqb rl 129

-- "d 1 to 2^31 - 1"
abbrev pub divisor_tests : (d rl : ℕ) → List Test
divisor_tests d rl = number asks (leb 1 d && leb d (2 ^ 31 - 1)) ∷ table asks recip_ok rl ∷ []

-- what `resolve_divisor_32` answers; "Every refusal gives zeros for its other results"
unfoldable pub divisor_of : ℕ → List ℕ → Divisor
divisor_of d recip =
    let verdict = lowest (divisor_tests d (length recip)) in
    or_same verdict (record { number = verdict; y = recip_of recip d; shift = pos (shift_of d) }) (record { number = verdict; y = pos 0; shift = pos 0 })

-- "Matrix entries 2 to 5 within ±2^22"
unfoldable pub entries_ok : List ℤ → Bool
entries_ok m = is_within (2 ^ 22) (at m 2) && is_within (2 ^ 22) (at m 3) && is_within (2 ^ 22) (at m 4) && is_within (2 ^ 22) (at m 5)

abbrev pub shear_tests : List ℤ → (rl : ℕ) → List Test
shear_tests m rl = number asks entries_ok m ∷ table asks recip_ok rl ∷ matrix asks lt_z (pos 0) (at m 2) ∷ []

-- the record with its shears and affine
unfoldable pub sheared : WarpParams → List ℕ → WarpParams
sheared wm recip =
    let m = wm.matrix in let m2 = nat_abs (at m 2) in
    let y = recip_of recip m2 in let k = shift_of m2 in
    let a = shear_a (at m 2) in let b = shear_b (at m 3) in
    let c = shear_c (at m 4) y k in let d = shear_d (at m 3) (at m 4) (at m 5) y k in
    record { matrix = m; abcd = a ∷ b ∷ c ∷ d ∷ []; affine = affine_of a b c d }

-- "bw4, bh4 1 to 64 (sizes); bx4, by4 0 to 16,384; each mv part within ±2^20"
abbrev pub affine_mv_tests : (bw4 bh4 mvx mvy : ℤ) → List ℤ → (bx4 by4 : ℤ) → List Test
affine_mv_tests bw4 bh4 mvx mvy m bx4 by4 =
    size asks between (pos 1) (pos 64) bw4
    ∷ size asks between (pos 1) (pos 64) bh4
    ∷ number asks between (pos 0) (pos 16384) bx4
    ∷ number asks between (pos 0) (pos 16384) by4
    ∷ number asks is_within (2 ^ 20) mvx
    ∷ number asks is_within (2 ^ 20) mvy
    ∷ number asks entries_ok m
    ∷ []

-- "The other entries stay"
unfoldable pub with_mv : (bw4 bh4 mvx mvy : ℤ) → List ℤ → (bx4 by4 : ℤ) → List ℤ
with_mv bw4 bh4 mvx mvy m bx4 by4 =
    let X = middle bx4 bw4 in let Y = middle by4 bh4 in
    set (set m 0 (entry0 mvx X Y (at m 2) (at m 3))) 1 (entry1 mvy X Y (at m 4) (at m 5))

-- what `get_shear_params` and `set_affine_mv2d` answer: the number r, and the record, "as it came" where refused
abbrev pub ShearAnswer : WarpParams → (recip : List ℕ) → (r : ℕ) (wm' : WarpParams) → Type 0
ShearAnswer wm recip r wm' = (r ≡ lowest (shear_tests wm.matrix (length recip))) × (wm' ≡ or_same r (sheared wm recip) wm)

abbrev pub AffineMvAnswer : (bw4 bh4 mvx mvy : ℤ) (m : List ℤ) (bx4 by4 : ℤ) → (r : ℕ) (m' : List ℤ) → Type 0
AffineMvAnswer bw4 bh4 mvx mvy m bx4 by4 r m' =
    (r ≡ lowest (affine_mv_tests bw4 bh4 mvx mvy m bx4 by4)) × (m' ≡ or_same r (with_mv bw4 bh4 mvx mvy m bx4 by4) m)
