-- `sad_nxn` and `sad_refine_mv`, on blocks p and q whose pixel at column i of row j is p i j, q i j. Assumes nothing.
use Rattle.std.specs.Prelude.{ℕ, ◌+◌, ◌-◌, ◌*◌, ◌/◌, ◌^◌, ltb, eqb, ℤ, pos, negsuc, nat_abs, ◌+ℤ◌, ◌-ℤ◌, Bool, true, false, List, [], ◌∷◌}
use Rattle.rows.specs.Numbers.{up, apart, sum}
use Rattle.rows.specs.Places.{pick}

-- the differences of row j
unfoldable pub row_apart : (ℕ → ℕ → ℕ) → (ℕ → ℕ → ℕ) → (w j : ℕ) → ℕ
row_apart p q w j = sum w (λ i. apart (pos (p i j)) (pos (q i j)))

-- "adds |difference| over rows 0, 2, 4 ... then shifts right by depth-8": of h rows, (h + 1) / 2 are added
unfoldable pub sad : (depth : ℕ) → (ℕ → ℕ → ℕ) → (ℕ → ℕ → ℕ) → (w h : ℕ) → ℕ
sad depth p q w h = sum ((h + 1) / 2) (λ r. row_apart p q w (2 * r)) / 2 ^ (depth - 8)

-- an offset, and the best sum so far with its offset
pub record Offset : Type 0 where
  pub dx : ℤ
  pub dy : ℤ

pub data Best : Type 0 where
  none : Best
  best : ℕ → Offset → Best

-- "the first strict minimum stays"
unfoldable pub better : Best → ℕ → Offset → Best
better none s o = best s o
better (best t p) s o = pick (ltb s t) (best s o) (best t p)

-- p, from column x of row y on
abbrev pub moved : (ℕ → ℕ → ℕ) → ℤ → ℤ → ℕ → ℕ → ℕ
moved p x y i j = p (up x + i) (up y + j)

-- "compares by sad_nxn blocks of (w+4) x (h+4)"; "Offset (dx, dy) starts one at column 2+dx, row 2+dy, the other at 2-dx, 2-dy"
unfoldable pub sad_at : (depth : ℕ) → (ℕ → ℕ → ℕ) → (ℕ → ℕ → ℕ) → (w h : ℕ) → Offset → ℕ
sad_at depth p q w h o =
    sad depth (moved p (pos 2 +ℤ o.dx) (pos 2 +ℤ o.dy)) (moved q (pos 2 -ℤ o.dx) (pos 2 -ℤ o.dy)) (w + 4) (h + 4)

abbrev pub centre : Offset
centre = record { dx = pos 0; dy = pos 0 }

-- one offset more; "the centre is skipped"
unfoldable pub visit : (Offset → ℕ) → ℤ → ℤ → Best → Best
visit s dy dx b = pick (eqb (nat_abs dx + nat_abs dy) 0) b (better b (s (record { dx = dx; dy = dy })) (record { dx = dx; dy = dy }))

-- one number after the other
unfoldable pub through : List ℤ → (ℤ → Best → Best) → Best → Best
through [] f b = b
through (d ∷ ds) f b = through ds f (f d b)

abbrev pub steps : List ℤ
steps = negsuc 1 ∷ negsuc 0 ∷ pos 0 ∷ pos 1 ∷ pos 2 ∷ []

-- "Order: dy from -2 to 2, within it dx from -2 to 2", from the best b
unfoldable pub search : (Offset → ℕ) → Best → Best
search s b = through steps (λ dy. through steps (λ dx. visit s dy dx)) b

unfoldable pub answer : Best → Offset
answer none = centre
answer (best t o) = o

-- "Implicit mode first takes the centre's sum s, keeps (7s+7) >> 3 as the best, and answers (0, 0) at once if that is below 2(w+4)(h+4)"
unfoldable pub refine : (depth : ℕ) (is_implicit : Bool) → (ℕ → ℕ → ℕ) → (ℕ → ℕ → ℕ) → (w h : ℕ) → Offset
refine depth false p q w h = answer (search (sad_at depth p q w h) none)
refine depth true p q w h =
    let kept = (7 * sad_at depth p q w h centre + 7) / 2 ^ 3 in
    pick (ltb kept (2 * (w + 4) * (h + 4))) centre (answer (search (sad_at depth p q w h) (best kept centre)))
