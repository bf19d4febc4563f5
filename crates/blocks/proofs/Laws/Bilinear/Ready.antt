-- Bilinear blocks: what the number tells, and what each case's rows rely on. Assumes nothing.
use Rattle.blocks.proofs.Usual.{true, Bool, List, ◌≡◌, ◌∙◌, refl, sym, ℕ, ◌≤◌, ◌*◌, ◌+◌, ◌-◌, ◌<◌, ◌^◌, suc, zero, min, arith, le-leb, le-ltb, lt-leb, lt-ltb}
use Rattle.blocks.proofs.Usual.{pos, ℤ, length, le_z, up, half, span, lowest, holds, reads, Block, and_true, by-lt, row_fits, one-part, le_yes}
use Rattle.blocks.proofs.Usual.{rows_met, block_met, all_met, holds_met, stride_met, Filled, row_in, filled_span}
use Rattle.blocks.specs.Subpel.{on, sixteenth_ok}
use Rattle.blocks.specs.Bilinear.{bilin_tests}
use Rattle.blocks.specs.inner.Ready.{Pairs, PairsIn, Bilin}
use Rattle.blocks.specs.inner.Source.{top_down, Stood}
use Rattle.blocks.proofs.Laws.Loops.Stands.{StoodRow, stood_row, stood_from}
use Rattle.blocks.specs.declared.source.Stand.{Stand}

-- ---- the number

-- from place 0 on, a block with x columns and y rows more is read where the buffer holds as many rows of that length
pub reads-holds : (l s : ℕ) {w h : ℕ} (x y : ℕ) → Block w h → holds l s (w + x) (h + y) ≡ reads l 0 s w h 0 x 0 y
unfolding holds reads
reads-holds l s {w} {h} x y b =
    let e : h + y - 1 ≡ h - 1 + y = omega (arith, b) in
    rw (e, le-leb (0 * s + 0) 0 (omega arith)) (by-lt (0 + (h - 1 + y) * s + (w - 1 + x)) l
    (λ p. le-leb ((h - 1 + y) * s + (w + x)) l (omega (arith, b)) ∙ sym (lt-ltb (0 + (h - 1 + y) * s + (w - 1 + x)) l p))
    λ p. lt-leb ((h - 1 + y) * s + (w + x)) l (omega (arith, b)) ∙ sym (le-ltb (0 + (h - 1 + y) * s + (w - 1 + x)) l p))

pub sixteenth_met : (f : ℤ) → sixteenth_ok f ≡ true → up f ≤ 15
unfolding sixteenth_ok
sixteenth_met f e =
    let p = and_true (le_z (pos 0) f) (le_z f (pos 15)) e in
    omega (arith, le_yes (pos 0) f p.0, le_yes f (pos 15) p.1, one-part f)

pub bilin_ready : {deep : Bool} {dl ds sl ss w h : ℕ} (mx my : ℤ) → lowest (bilin_tests deep dl ds sl ss w h mx my) ≡ 0
    → (deep ≡ true) × Bilin dl ds sl (top_down 0 ss) w h (up mx) (up my)
bilin_ready {deep} {dl} {ds} {sl} {ss} {w} {h} mx my e =
    let m = all_met (bilin_tests deep dl ds sl ss w h mx my) e in
    let t = m.1.1 in let n = t.1.1 in let r = n.1.1.1 in
    let b = block_met w h m.0 m.1.0 in let s = stride_met w ss t.1.0 in
    let q : Bilin dl ds sl (top_down 0 ss) w h (up mx) (up my) = record {
      block = b;
      dst = rows_met dl ds w h t.0 r.1.0;
      src = stood_from s.1 (omega (arith, holds_met sl ss (w + on mx) (h + on my) (reads-holds sl ss (on mx) (on my) b ∙ r.0)));
      one = omega arith;
      f15 = sixteenth_met mx n.1.0;
      g15 = sixteenth_met my n.1.1.0;
    } in
    (n.0, q)

-- ---- a pass over rows of intermediates, and over those of a source

-- in a turn at row y, the row is within the written buffer, its pairs within the read one, and the part lent is as long as the row
module _ {A : Type 0} where
  pub record Turn (d : List A) (ds sl ss step w y : ℕ) : Type 0 where
    pub dst : y * ds + w ≤ length d
    pub src : y * ss + (w + step) ≤ sl
    pub long : length (span d (y * ds) (y * ds + w)) ≡ w

  pub turn : (z : A) {ds sl ss step w h f n y : ℕ} {p : ℕ → ℕ → A} {d₀ d : List A}
      → Pairs (length d₀) ds sl ss step w h f n → Filled ds w p d₀ h y d → y < h → Turn d ds sl ss step w y
  turn z {ds} {sl} {ss} {step} {w} {h} {f} {n} {y} {p} {d₀} {d} r q lt =
      record { dst = omega (arith, row_in y r.dst lt, q); src = row_fits sl ss (w + step) h y r.src lt; long = filled_span z q r.dst lt }

  pub record TurnIn (d : List A) (ds sl : ℕ) (s : Stand) (step w y : ℕ) : Type 0 where
    pub dst : y * ds + w ≤ length d
    pub src : StoodRow sl s (w + step) y
    pub long : length (span d (y * ds) (y * ds + w)) ≡ w

  pub turn_in : (z : A) {ds sl : ℕ} {s : Stand} {step w h f n y : ℕ} {p : ℕ → ℕ → A} {d₀ d : List A}
      → PairsIn (length d₀) ds sl s step w h f n → Filled ds w p d₀ h y d → y < h → TurnIn d ds sl s step w y
  turn_in z {y = y} r q lt = record { dst = omega (arith, row_in y r.dst lt, q); src = stood_row y r.src lt; long = filled_span z q r.dst lt }

-- ---- what the rows of each case rely on
module _ {dl ds sl : ℕ} {s : Stand} {w h f g : ℕ} (p : Bilin dl ds sl s w h f g) where
  -- the source, by the two numbers of places that are read past the block
  stood_of : (x y n : ℕ) → min f 1 ≡ x → min g 1 ≡ y → h + y ≡ n → Stood sl s (w + x) n
  stood_of x y n a b e = rw (← e, ← a, ← b) p.src

  pub stood_both : 0 < f → 0 < g → Stood sl s (w + 1) (h + 1)
  stood_both a b = stood_of 1 1 (h + 1) (omega arith) (omega arith) refl

  -- of a block without a fraction across, the row below too
  pub stood_below : f ≡ 0 → 0 < g → Stood sl s w (h - 1 + 2)
  stood_below a b = let e : w + 0 ≡ w = omega arith in rw e at (stood_of 0 1 (h - 1 + 2) (omega arith) (omega arith) (omega (arith, p.block)))

  module _ (n : ℕ) (n8 : n ≤ 8) where
    pub across : 0 < f → g ≡ 0 → PairsIn dl ds sl s 1 w h f n
    across a b = record { w1 = p.block.w1; dst = p.dst; src = stood_of 1 0 h (omega arith) (omega arith) (omega arith); f15 = p.f15; n8 = n8 }

-- what put adds for its two shifts is below what they shift out, 2^(4-B) x 2^B
pub halves_small : (B : ℕ) → B ≤ 4 → half (4 - B) + half B * 2 ^ (4 - B) ≤ 15
halves_small zero b = omega arith
halves_small (suc zero) b = omega arith
halves_small (suc (suc zero)) b = omega arith
halves_small (suc (suc (suc zero))) b = omega arith
halves_small (suc (suc (suc (suc zero)))) b = omega arith
halves_small (suc (suc (suc (suc (suc B))))) b = absurd (omega arith)
