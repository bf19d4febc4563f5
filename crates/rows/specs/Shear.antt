-- Divisor, shears and affine offsets, on numbers. "32-bit steps wrap": those of Q, g and the shears are written with their
-- cut, also where it can't happen. Assumes nothing.
use Rattle.std.specs.Prelude.{ℕ, zero, suc, ◌+◌, ◌-◌, ◌*◌, ◌/◌, ◌^◌, ltb, leb, ℤ, pos, negsuc, nat_abs, ◌+ℤ◌, ◌-ℤ◌, ◌*ℤ◌, get_or, cond, ◌&&◌, List}
use Rattle.std.specs.Int.Signed.{lt_z}
use Rattle.rows.specs.Numbers.{clip_to, low32, minus32, ◌>>◌}

-- [v < 0]
abbrev pub is_neg : ℤ → ℕ
is_neg (pos n) = 0
is_neg (negsuc n) = 1

-- "Q(v) = (v + 32 - [v<0]) rounded down to a multiple of 64, clipped to -32768 to 32704"
unfoldable pub Q : ℤ → ℤ
Q v = clip_to (negsuc 32767) (pos 32704) ((low32 (v +ℤ pos 32 -ℤ pos (is_neg v)) >> 6) *ℤ pos 64)

-- the largest t below n with 2^t ≤ d; "top bit t" of a number of 32 bits
unfoldable pub top_below : ℕ → ℕ → ℕ
top_below zero d = 0
top_below (suc n) d = cond (leb (2 ^ n) d) n (top_below n d)

abbrev pub top_bit : ℕ → ℕ
top_bit d = top_below 32 d

-- "e = d - 2^t; f = e << (7-t) if t is at most 7, else (e + 2^(t-8)) >> (t-7)"
unfoldable pub recip_place : ℕ → ℕ
recip_place d =
    let t = top_bit d in let e = d - 2 ^ t in
    cond (leb t 7) (e * 2 ^ (7 - t)) ((e + 2 ^ (t - 8)) / 2 ^ (t - 7))

-- "y = reciprocal[f]; shift k = t + 9"
unfoldable pub recip_of : List ℕ → ℕ → ℤ
recip_of recip d = pos (get_or recip (recip_place d) 0)

unfoldable pub shift_of : ℕ → ℕ
shift_of d = top_bit d + 9

-- "g(v) is (|v| + 2^(k-1)) >> k cut to 32 bits, sign of v restored, wrapping"
unfoldable pub g : ℕ → ℤ → ℤ
g k v =
    let cut = low32 (pos ((nat_abs v + 2 ^ (k - 1)) / 2 ^ k)) in
    cond (lt_z v (pos 0)) (minus32 (pos 0) cut) cut

-- "a = Q(m2 - 65536), b = Q(m3)"
unfoldable pub shear_a : ℤ → ℤ
shear_a m2 = Q (minus32 m2 (pos 65536))

unfoldable pub shear_b : ℤ → ℤ
shear_b m3 = Q m3

-- "For v1 = 65536 m4 y .. c = Q(g(v1))"
unfoldable pub shear_c : (m4 y : ℤ) (k : ℕ) → ℤ
shear_c m4 y k = Q (g k (pos 65536 *ℤ m4 *ℤ y))

-- "v2 = m3 m4 y .. d = Q(m5 - g(v2) - 65536)"
unfoldable pub shear_d : (m3 m4 m5 y : ℤ) (k : ℕ) → ℤ
shear_d m3 m4 m5 y k = Q (minus32 (minus32 m5 (g k (m3 *ℤ m4 *ℤ y))) (pos 65536))

-- "affine is 1 when 4|a| + 7|b| and 4|c| + 4|d| are both below 196,608"
unfoldable pub affine_of : (a b c d : ℤ) → ℤ
affine_of a b c d = cond (ltb (4 * nat_abs a + 7 * nat_abs b) 196608 && ltb (4 * nat_abs c + 4 * nat_abs d) 196608) (pos 1) (pos 0)

-- `set_affine_mv2d`: "X = 4bx4 + 2bw4 - 1, Y likewise"
unfoldable pub middle : ℤ → ℤ → ℤ
middle b4 size4 = pos 4 *ℤ b4 +ℤ pos 2 *ℤ size4 -ℤ pos 1

-- 8192 mv - X p - Y q, "clipped to -134,217,728 to 134,217,664"
unfoldable pub offset_of : (mv X p Y q : ℤ) → ℤ
offset_of mv X p Y q = clip_to (negsuc 134217727) (pos 134217664) (pos 8192 *ℤ mv -ℤ X *ℤ p -ℤ Y *ℤ q)

-- "entry 0 is 8192 mv.x - X(m2-65536) - Y m3, entry 1 is 8192 mv.y - X m4 - Y(m5-65536)"
unfoldable pub entry0 : (mvx X Y m2 m3 : ℤ) → ℤ
entry0 mvx X Y m2 m3 = offset_of mvx X (m2 -ℤ pos 65536) Y m3

unfoldable pub entry1 : (mvy X Y m4 m5 : ℤ) → ℤ
entry1 mvy X Y m4 m5 = offset_of mvy X m4 Y (m5 -ℤ pos 65536)
