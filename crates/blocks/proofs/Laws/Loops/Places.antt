-- Refusal number 5, as it is told of every kernel: the places that a rule reads are whole numbers, below 0 too, and each is held against the buffer's length.
-- What stands at a place z outside of a buffer may be any d z: a rule that read there would show it. Assumes nothing.
use mathlib.Core.Path.{◌≡◌, refl, ap, ◌∙◌}
use mathlib.Core.Bool.{true}
use mathlib.Core.List.{List, [], ◌∷◌}
use Prim.Native.Nat.{ℕ, zero, suc, ◌+◌, ◌-◌, ◌*◌, ◌≤◌, ◌<◌}
use native.Mathlib.Nat.{add-mul, mul-le-mul_right, le_of_suc-le-suc, not-suc-le-zero}
use native.Mathlib.Omega.{arith}
use borrow.Author.Tests.{le-leb}
use lib.IntN.{ℤ, pos, negsuc, ◌+ℤ◌, ◌-ℤ◌, ◌*ℤ◌}
use lib.ListN.{length, get_or}
use Rattle.rows.specs.Numbers.{up, dn}
use Rattle.rows.specs.Places.{around}
use Rattle.rows.proofs.Laws.Numbers.Signed.{add_parts, sub_parts, mul-up, mul-dn, one-part}
use Rattle.blocks.specs.Refuse.{holds, reads}
use Rattle.blocks.proofs.Laws.Calls.Refuse.{holds_met, reads_met, met_reads}

-- ---- places
-- column x of row y, counted from the pixel at place o
abbrev pub place_of : (o s : ℕ) (x y : ℤ) → ℤ
place_of o s x y = pos o +ℤ y *ℤ pos s +ℤ x

-- it is one of the places 0 to l - 1
abbrev pub InBuffer : (l : ℕ) → ℤ → Type 0
InBuffer l (pos k) = k < l
InBuffer l (negsuc k) = ⊥

-- what stands at z, and d z outside of the buffer
abbrev pub standing : (d : ℤ → ℕ) → List ℕ → ℤ → ℕ
standing d l (pos k) = get_or l k (d (pos k))
standing d l (negsuc k) = d (negsuc k)

-- inside, it is the same whatever stands outside
module _ {A : Type 0} where
  pub inside_any : (l : List A) (k : ℕ) (d e : A) → k < length l → get_or l k d ≡ get_or l k e
  inside_any [] k d e h = absurd (not-suc-le-zero h)
  inside_any (x ∷ l) zero d e h = refl
  inside_any (x ∷ l) (suc k) d e h = inside_any l k d e (le_of_suc-le-suc h)

in_of : (l : ℕ) (z : ℤ) → dn z ≡ 0 → up z < l → InBuffer l z
in_of l (pos k) a b = b
in_of l (negsuc k) a b = absurd (omega arith)

of_in : (l : ℕ) (z : ℤ) → InBuffer l z → (dn z ≡ 0) × (up z < l)
of_in l (pos k) h = (refl, h)
of_in l (negsuc k) h = absurd h

-- ---- the place that a rule's q a b is read at: column a - m and row b - m from column i of row j of a block at place o
abbrev pub tap_at : (m o s i j a b : ℕ) → ℤ
tap_at m o s i j a b = place_of o s (pos (i + a) -ℤ pos m) (pos (j + b) -ℤ pos m)

-- counted from m columns left of and m rows above place 0, it is no less than 0
abbrev lifted : (o s i j a b : ℕ) → ℕ
lifted o s i j a b = o + (j + b) * s + (i + a)

module _ (m o s i j a b : ℕ) where
  balance : up (tap_at m o s i j a b) + (m * s + m) ≡ dn (tap_at m o s i j a b) + lifted o s i j a b
  balance =
      let x = pos (i + a) -ℤ pos m in
      let y = pos (j + b) -ℤ pos m in
      let v = sub_parts (pos (j + b)) (pos m) in
      let e : (up y + m) * s ≡ (dn y + (j + b)) * s = ap (λ (n : ℕ). n * s) (omega arith) in
      omega (
        arith,
        add_parts (pos o) (y *ℤ pos s),
        add_parts (pos o +ℤ y *ℤ pos s) x,
        sub_parts (pos (i + a)) (pos m),
        mul-up y s,
        mul-dn y s,
        add-mul (up y) m s,
        add-mul (dn y) (j + b) s,
      )

  pub tap_in : (l : ℕ) → m * s + m ≤ lifted o s i j a b → lifted o s i j a b < l + (m * s + m) → InBuffer l (tap_at m o s i j a b)
  tap_in l p q =
      let z = tap_at m o s i j a b in
      in_of l z (omega (arith, balance, one-part z)) (omega (arith, balance, one-part z))

  in_tap : (l : ℕ) → InBuffer l (tap_at m o s i j a b) → (m * s + m ≤ lifted o s i j a b) × (lifted o s i j a b < l + (m * s + m))
  in_tap l h =
      let p = of_in l (tap_at m o s i j a b) h in
      omega (arith, balance)

  -- `around` reads that place and no other: it neither stops at 0 nor makes anything up behind the end
  pub around-stands : (d : ℤ → ℕ) (src : List ℕ) → InBuffer (length src) (tap_at m o s i j a b) → around m src o s i j a b ≡ standing d src (tap_at m o s i j a b)
  unfolding around
  around-stands d src h = go (tap_at m o s i j a b) h (omega (arith, balance, of_in (length src) (tap_at m o s i j a b) h)) where
    go : (z : ℤ) → InBuffer (length src) z → lifted o s i j a b - (m * s + m) ≡ up z → get_or src (lifted o s i j a b - (m * s + m)) 0 ≡ standing d src z
    go (pos k) h e = ap (λ (n : ℕ). get_or src n 0) e ∙ inside_any src k 0 (d (pos k)) h
    go (negsuc k) h e = absurd h

-- ---- a filtered source: from b columns left and c rows above each pixel of the block to b' columns right and c' rows below
abbrev pub RangeInside : (m l o s w h b b' c c' : ℕ) → Type 0
RangeInside m l o s w h b b' c c' =
    (i j x y : ℕ) → i < w → j < h → (m ≤ x + b) × (x ≤ m + b') → (m ≤ y + c) × (y ≤ m + c') → InBuffer l (tap_at m o s i j x y)

module _ (m l o s w h b b' c c' : ℕ) where
  pub reads_range : reads l o s w h b b' c c' ≡ true → RangeInside m l o s w h b b' c c'
  reads_range e i j x y p q across down =
      let r = reads_met l o s w h b b' c c' e in
      let above : m ≤ j + y + c = omega arith in
      let under : j + y ≤ h - 1 + c' + m = omega arith in
      let f = mul-le-mul_right s above in
      let g = mul-le-mul_right s under in
      tap_in m o s i j x y l (omega (arith, add-mul (j + y) c s)) (omega (arith, add-mul (h - 1 + c') m s))

  pub range_reads : 1 ≤ w → 1 ≤ h → b ≤ m → c ≤ m → RangeInside m l o s w h b b' c c' → reads l o s w h b b' c c' ≡ true
  range_reads w1 h1 bm cm f =
      let p = in_tap m o s 0 0 (m - b) (m - c) l (f 0 0 (m - b) (m - c) (omega arith) (omega arith) (omega arith) (omega arith)) in
      let q = in_tap m o s (w - 1) (h - 1) (m + b') (m + c') l
      (f (w - 1) (h - 1) (m + b') (m + c') (omega arith) (omega arith) (omega arith) (omega arith)) in
      let e : (0 + (m - c) + c) * s ≡ m * s = ap (λ (n : ℕ). n * s) (omega arith) in
      let g : (h - 1 + (m + c')) * s ≡ (h - 1 + c' + m) * s = ap (λ (n : ℕ). n * s) (omega arith) in
      met_reads l o s w h b b' c c' (omega (arith, add-mul (0 + (m - c)) c s)) (omega (arith, add-mul (h - 1 + c') m s))

-- ---- a buffer that is tested whole: w columns of h rows
abbrev pub AllHeld : (l s w h : ℕ) → Type 0
AllHeld l s w h = (i j : ℕ) → i < w → j < h → j * s + i < l

pub holds_all_lem : (l s w h : ℕ) → holds l s w h ≡ true → AllHeld l s w h
holds_all_lem l s w h e i j p q =
    let n : j ≤ h - 1 = omega arith in
    omega (arith, holds_met l s w h e, mul-le-mul_right s n)

pub all_holds : (l s w h : ℕ) → 1 ≤ w → 1 ≤ h → AllHeld l s w h → holds l s w h ≡ true
unfolding holds
all_holds l s w h w1 h1 f = le-leb ((h - 1) * s + w) l (omega (arith, f (w - 1) (h - 1) (omega arith) (omega arith)))
