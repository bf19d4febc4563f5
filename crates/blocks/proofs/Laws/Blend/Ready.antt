-- blend and morph: what their rows rely on, and which answer each way out of blend is. Assumes nothing.
use Rattle.blocks.proofs.Usual.{true, Bool, false, List, [], ◌∷◌, ◌++◌, ◌≡◌, ◌∙◌, refl, sym, ℕ, ◌≤◌, ◌*◌, ◌<◌, ◌^◌, arith, leb-true}
use Rattle.blocks.proofs.Usual.{ne_eqb, ℤ, nat_abs, length, pixel, fill, lowest, Test, ◌asks◌, block_side, holds, stride_ok, size_ok, need}
use Rattle.blocks.proofs.Usual.{or_same, Rows, Block, rows_met, block_met, refused, all_met, later, sooner}
use Rattle.std.specs.Prelude.{Option, Some, None}
use Rattle.rows.specs.Combine.{blend}
use Rattle.blocks.specs.Refuse.{above64}
use Rattle.blocks.specs.Blend.{first_above, none_above, blend_shape, spot_of, BlendAnswer, morph_tests}
use Rattle.blocks.specs.inner.Blend.{found_at}
use Rattle.blocks.specs.declared.blend.Spot.{Spot}
use Rattle.blocks.proofs.Laws.Loops.Gapless.{gapless_met}
use Rattle.blocks.proofs.Laws.Blend.Above.{found_spot, found_none, at-most_met, none_is}

-- ---- blend
pub blend_ready : {dl ds tl w h ml : ℕ} → lowest (blend_shape dl ds tl w h ml) ≡ 0 → Block w h × Rows dl ds w h × Rows tl w w h × Rows ml w w h
blend_ready {dl} {ds} {tl} {w} {h} {ml} e =
    let m = all_met (blend_shape dl ds tl w h ml) e in
    let t = m.1.1 in
    let b = block_met w h m.0 m.1.0 in
    (b, rows_met dl ds w h t.0 t.1.1.1.0, gapless_met tl w h b t.1.0, gapless_met ml w h b t.1.1.0)

-- none of the shape's numbers is 7
need-lt : (b : Bool) {n m k : ℕ} → n < k → m < k → need b n m < k
unfolding need
need-lt true p q = q
need-lt false p q = p

shape_lt : (dl ds tl w h ml : ℕ) → lowest (blend_shape dl ds tl w h ml) < 7
shape_lt dl ds tl w h ml =
    need-lt (size_ok block_side w) (omega arith)
    (need-lt (size_ok block_side h) (omega arith)
    (need-lt (stride_ok w ds) (omega arith)
    (need-lt (holds tl w w h) (omega arith)
    (need-lt (holds ml w w h) (omega arith)
    (need-lt (holds dl ds w h) (omega arith) (omega arith))))))

abbrev shape_of : (dst : List ℕ) (ds : ℕ) (tmp : List ℕ) (w h : ℕ) (mask : List ℕ) → List Test
shape_of dst ds tmp w h mask = blend_shape (length dst) ds (length tmp) w h (length mask)

abbrev last_of : (w h : ℕ) (mask : List ℕ) → List Test
last_of w h mask = above64 asks none_above mask w h ∷ []

-- refused by the shape
pub blend-refused : (dst : List ℕ) (ds : ℕ) (tmp : List ℕ) (w h : ℕ) (mask : List ℕ) (r : ℕ) → r ≡ lowest (shape_of dst ds tmp w h mask) → (r ≡ 0 → ⊥)
    → BlendAnswer dst ds tmp w h mask r dst 0 0
unfolding spot_of
blend-refused dst ds tmp w h mask r e f =
    let g : r < 7 = omega (arith, shape_lt (length dst) ds (length tmp) w h (length mask)) in
    (e ∙ sooner (shape_of dst ds tmp w h mask) (lowest (last_of w h mask)) (λ z. f (e ∙ z)), sym (refused r _ dst f), rw (ne_eqb r 7 (λ z. omega arith)) refl)

-- a call whose shape passed, and what its search answered
pub record Searched (dst : List ℕ) (ds : ℕ) (tmp : List ℕ) (w h : ℕ) (mask : List ℕ) (o : Option Spot) : Type 0 where
  pub shape : lowest (shape_of dst ds tmp w h mask) ≡ 0
  pub ends : o ≡ found_at w h (first_above mask 0 (w * h))

then_mask : (dst : List ℕ) (ds : ℕ) (tmp : List ℕ) (w h : ℕ) (mask : List ℕ) → lowest (shape_of dst ds tmp w h mask) ≡ 0
    → lowest (shape_of dst ds tmp w h mask ++ last_of w h mask) ≡ need (none_above mask w h) 7 0
then_mask dst ds tmp w h mask e = sym (later (shape_of dst ds tmp w h mask) (lowest (last_of w h mask)) e)

module _ {dst : List ℕ} {ds : ℕ} {tmp : List ℕ} {w h : ℕ} {mask : List ℕ} where
  -- a value above 64 was found
  pub blend_above : {s : Spot} → Searched dst ds tmp w h mask (Some s) → BlendAnswer dst ds tmp w h mask 7 dst s.row s.col
  unfolding need spot_of or_same
  blend_above p =
      let f = found_spot mask w h p.ends in
      let n = none_is mask w h ∙ ne_eqb (first_above mask 0 (w * h)) (w * h) (λ e. omega (arith, f.0)) in
      (sym (then_mask dst ds tmp w h mask p.shape ∙ rw n refl), refl, f.1)

  -- none was
  pub blend-done : Searched dst ds tmp w h mask None → (d : List ℕ)
      → d ≡ fill dst ds w h (λ i j. blend (pixel mask w i j) (pixel dst ds i j) (pixel tmp w i j)) → BlendAnswer dst ds tmp w h mask 0 d 0 0
  unfolding need spot_of or_same
  blend-done p d e = (sym (then_mask dst ds tmp w h mask p.shape ∙ rw (at-most_met mask w h (found_none mask w h p.ends)) refl), e, refl)

-- ---- morph
pub morph_ready : (deep : Bool) (dl ds : ℕ) (alpha beta : ℤ) (w h : ℕ) → lowest (morph_tests deep dl ds alpha beta w h) ≡ 0
    → (deep ≡ true) × Block w h × Rows dl ds w h × (nat_abs alpha ≤ 2 ^ 14) × (nat_abs beta ≤ 2 ^ 22)
morph_ready deep dl ds alpha beta w h e =
    let m = all_met (morph_tests deep dl ds alpha beta w h) e in
    let t = m.1.1 in let n = t.1.1 in
    let a = leb-true (nat_abs alpha) (2 ^ 14) n.0 in
    (t.1.0, block_met w h m.0 m.1.0, rows_met dl ds w h t.0 n.1.1.0, a, leb-true (nat_abs beta) (2 ^ 22) n.1.0)
