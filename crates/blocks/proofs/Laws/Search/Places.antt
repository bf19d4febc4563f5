-- `sad_nxn` and `sad_refine_mv`, refusal number 5: both buffers are tested whole. They are accepted exactly where they hold each of w x h pixels, or of
-- (w + 8) x (h + 8), also of rows that are skipped; and the rules read these alone. Assumes nothing.
use mathlib.Core.Path.{◌≡◌, refl, ap, ap₂, ◌∙◌, fun_ext}
use mathlib.Core.Bool.{Bool, true, false, ◌&&◌}
use mathlib.Core.List.{List, [], ◌∷◌}
use Prim.Native.Nat.{ℕ, ◌+◌, ◌*◌, ◌/◌, ◌^◌, ◌≤◌}
use native.Mathlib.Omega.{arith}
use lib.Dec.{ltb, eqb}
use lib.IntN.{ℤ, pos, nat_abs, ◌+ℤ◌, ◌-ℤ◌}
use lib.ListN.{length, get_or}
use Rattle.rows.specs.Numbers.{up}
use Rattle.rows.specs.Places.{pick, pixel}
use Rattle.rows.specs.Search.{sad, sad_at, Offset, Best, none, best, better, visit, through, steps, search, answer, centre, refine}
use Rattle.rows.proofs.Laws.Blocks.Fill.{and_true}
use Rattle.blocks.specs.Refuse.{holds}
use Rattle.blocks.specs.Search.{sads_tests, sad_tests, refine_tests}
use Rattle.blocks.proofs.Laws.Calls.Given.{met}
use Rattle.blocks.proofs.Laws.Loops.Places.{AllHeld, holds_all_lem, all_holds, inside_any}
use Rattle.blocks.proofs.Laws.Search.Ready.{Agree, sad_same, ahead_start, behind_start}

module _ (m : ℕ) (deep : Bool) (l0 s0 l1 s1 w h : ℕ) where
  pub sads_inside : met 5 (sads_tests m deep l0 s0 l1 s1 w h) ≡ true → AllHeld l0 s0 (w + m) (h + m) × AllHeld l1 s1 (w + m) (h + m)
  sads_inside e =
      let p = and_true (holds l0 s0 (w + m) (h + m)) (holds l1 s1 (w + m) (h + m) && true) e in
      let q = and_true (holds l1 s1 (w + m) (h + m)) true p.1 in
      (holds_all_lem l0 s0 (w + m) (h + m) p.0, holds_all_lem l1 s1 (w + m) (h + m) q.0)

  pub inside_sads : 1 ≤ w → 1 ≤ h → AllHeld l0 s0 (w + m) (h + m) → AllHeld l1 s1 (w + m) (h + m) → met 5 (sads_tests m deep l0 s0 l1 s1 w h) ≡ true
  inside_sads w1 h1 f g =
      rw (all_holds l0 s0 (w + m) (h + m) (omega arith) (omega arith) f, all_holds l1 s1 (w + m) (h + m) (omega arith) (omega arith) g) refl

module _ (deep : Bool) (l0 s0 l1 s1 w h : ℕ) where
  -- the blocks of `sad_nxn`
  pub sad-inside : met 5 (sad_tests deep l0 s0 l1 s1 w h) ≡ true → AllHeld l0 s0 w h × AllHeld l1 s1 w h
  sad-inside e =
      let p = sads_inside 0 deep l0 s0 l1 s1 w h e in
      ((λ i j a b. p.0 i j (omega arith) (omega arith)), (λ i j a b. p.1 i j (omega arith) (omega arith)))

  pub inside-sad : 1 ≤ w → 1 ≤ h → AllHeld l0 s0 w h → AllHeld l1 s1 w h → met 5 (sad_tests deep l0 s0 l1 s1 w h) ≡ true
  inside-sad w1 h1 f g = inside_sads 0 deep l0 s0 l1 s1 w h w1 h1 (λ i j a b. f i j (omega arith) (omega arith)) (λ i j a b. g i j (omega arith) (omega arith))

  -- the buffers of `sad_refine_mv`
  pub refine-inside : met 5 (refine_tests deep l0 s0 l1 s1 w h) ≡ true → AllHeld l0 s0 (w + 8) (h + 8) × AllHeld l1 s1 (w + 8) (h + 8)
  refine-inside e = sads_inside 8 deep l0 s0 l1 s1 w h e

  pub inside-refine : 1 ≤ w → 1 ≤ h → AllHeld l0 s0 (w + 8) (h + 8) → AllHeld l1 s1 (w + 8) (h + 8) → met 5 (refine_tests deep l0 s0 l1 s1 w h) ≡ true
  inside-refine w1 h1 f g = inside_sads 8 deep l0 s0 l1 s1 w h w1 h1 f g

-- ---- the rules read no other. The search: offsets of -2 to 2
abbrev Near : Offset → Type 0
Near o = (nat_abs o.dx ≤ 2) × (nat_abs o.dy ≤ 2)

module _ (p p' q q' : ℕ → ℕ → ℕ) (w h : ℕ) (e : Agree (w + 8) (h + 8) p p') (f : Agree (w + 8) (h + 8) q q') (depth : ℕ) where
  at_same : (o : Offset) → Near o → sad_at depth p q w h o ≡ sad_at depth p' q' w h o
  unfolding sad_at
  at_same o n =
      let right = (ahead_start o.dx n.0).to4 in
      let down = (ahead_start o.dy n.1).to4 in
      let left = (behind_start o.dx n.0).to4 in
      let above = (behind_start o.dy n.1).to4 in
      sad_same depth _ _ _ _ (w + 4) (h + 4)
      (λ i j a b. e (up (pos 2 +ℤ o.dx) + i) (up (pos 2 +ℤ o.dy) + j) (omega (arith, right)) (omega (arith, down)))
      (λ i j a b. f (up (pos 2 -ℤ o.dx) + i) (up (pos 2 -ℤ o.dy) + j) (omega (arith, left)) (omega (arith, above)))

abbrev AllNear : List ℤ → Type 0
AllNear [] = Unit {0}
AllNear (d ∷ ds) = (nat_abs d ≤ 2) × AllNear ds

through_same : (ds : List ℤ) (f g : ℤ → Best → Best) (b : Best) → AllNear ds → ((d : ℤ) → nat_abs d ≤ 2 → (b : Best) → f d b ≡ g d b)
    → through ds f b ≡ through ds g b
unfolding through
through_same [] f g b n e = refl
through_same (d ∷ ds) f g b n e = ap (through ds f) (e d n.0 b) ∙ through_same ds f g (g d b) n.1 e

steps_near : AllNear steps
steps_near = (omega arith, (omega arith, (omega arith, (omega arith, (omega arith, tt)))))

module _ (s t : Offset → ℕ) (same : (o : Offset) → Near o → s o ≡ t o) where
  visit_same : (dy dx : ℤ) → nat_abs dy ≤ 2 → nat_abs dx ≤ 2 → (b : Best) → visit s dy dx b ≡ visit t dy dx b
  unfolding visit
  visit_same dy dx m n b =
      let o : Offset = record { dx = dx; dy = dy } in
      ap (λ (v : ℕ). pick (eqb (nat_abs dx + nat_abs dy) 0) b (better b v o)) (same o (n, m))

  search_same : (b : Best) → search s b ≡ search t b
  unfolding search
  search_same b = through_same steps _ _ b steps_near λ dy m c. through_same steps _ _ c steps_near λ dx n a. visit_same dy dx m n a

-- ---- whatever stands outside of the buffers: d k at place k of the one, e k of the other
abbrev pub pixel_or : (d : ℕ → ℕ) → List ℕ → (s i j : ℕ) → ℕ
pixel_or d l s i j = get_or l (j * s + i) (d (j * s + i))

agree : (d : ℕ → ℕ) (l : List ℕ) (s w h : ℕ) → AllHeld (length l) s w h → Agree w h (pixel l s) (pixel_or d l s)
agree d l s w h f i j a b = inside_any l (j * s + i) 0 (d (j * s + i)) (f i j a b)

module _ (d e : ℕ → ℕ) (p : List ℕ) (s : ℕ) (q : List ℕ) (s' w h : ℕ) where
  pub sad-stands : (depth : ℕ) → AllHeld (length p) s w h → AllHeld (length q) s' w h
      → sad depth (pixel p s) (pixel q s') w h ≡ sad depth (pixel_or d p s) (pixel_or e q s') w h
  sad-stands depth f g = sad_same depth _ _ _ _ w h (agree d p s w h f) (agree e q s' w h g)

  pub refine-stands : (depth : ℕ) (isImplicit : Bool) → AllHeld (length p) s (w + 8) (h + 8) → AllHeld (length q) s' (w + 8) (h + 8)
      → refine depth isImplicit (pixel p s) (pixel q s') w h ≡ refine depth isImplicit (pixel_or d p s) (pixel_or e q s') w h
  unfolding refine
  refine-stands depth isImplicit f g = go isImplicit where
    each : (o : Offset) → Near o → sad_at depth (pixel p s) (pixel q s') w h o ≡ sad_at depth (pixel_or d p s) (pixel_or e q s') w h o
    each = at_same _ _ _ _ w h (agree d p s (w + 8) (h + 8) f) (agree e q s' (w + 8) (h + 8) g) depth

    go : (b : Bool) → refine depth b (pixel p s) (pixel q s') w h ≡ refine depth b (pixel_or d p s) (pixel_or e q s') w h
    go false = ap answer (search_same _ _ each none)
    go true =
        ap₂ (λ (k : ℕ) (a : Best → Best). pick (ltb ((7 * k + 7) / 2 ^ 3) (2 * (w + 4) * (h + 4))) centre (answer (a (best ((7 * k + 7) / 2 ^ 3) centre))))
        (each centre (omega arith, omega arith))
        (fun_ext λ b. search_same _ _ each b)
