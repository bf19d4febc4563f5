-- The numbers of a row of pixels: what reading, writing and cutting the row does to them. Assumes nothing.
use mathlib.Core.Path.{◌≡◌, ◌∙◌, ap, ap₂, subst, sym}
use mathlib.Core.List.{List, map, ◌++◌}
use Prim.Native.Nat.{ℕ, ◌+◌, ◌-◌, ◌≤◌, ◌<◌}
use native.Mathlib.Omega.{arith}
use lib.ListN.{length, get_or, set, take, drop, length-take, length-drop}
use Rattle.std.proofs.lemmas.List.{map-set, take-map, drop-map, map-append, length-map, get_or-map}
use Rattle.rows.specs.Places.{span, splice, row_of}
use Rattle.rows.proofs.Laws.Blocks.Row.{Upto, upto_none, upto_more}
use Rattle.rows.proofs.Laws.Blocks.Part.{upto_part}
use Rattle.rows.proofs.Laws.Blocks.Places.{row_same}
use Rattle.rows.proofs.Laws.Blocks.Over.{Over, over_none, over_here, over_more, over_all}

-- how long a part is
length-part : {A : Type 0} (l : List A) (a e : ℕ) → e ≤ length l → length (span l a e) ≡ e - a
length-part l a e h = simp (length-take, length-drop) (omega arith)

module _ {P : Type 0} {value : P → ℕ} {values : List P → List ℕ} (each : (l : List P) → values l ≡ map value l) where
  pub values-length : (l : List P) → length (values l) ≡ length l
  values-length l = ap length (each l) ∙ length-map l value

  pub values-set : (l : List P) (k : ℕ) (v : P) → values (set l k v) ≡ set (values l) k (value v)
  values-set l k v = each (set l k v) ∙ map-set value l k v ∙ ap (λ m. set m k (value v)) (sym (each l))

  pub values-nth : (l : List P) (k : ℕ) (z : P) → k < length l → get_or (values l) k 0 ≡ value (get_or l k z)
  values-nth l k z h = ap (λ m. get_or m k 0) (each l) ∙ get_or-map value l k z 0 h

  -- what was read at place k, as the check says it: the place holds it
  pub value-read : (l : List P) (k : ℕ) (v : P) → k < length l → v ≡ get_or l k v → value v ≡ get_or (values l) k 0
  value-read l k v h e = ap value e ∙ sym (values-nth l k v h)

  -- a row before anything is written to it, and after one pixel more
  pub painted_none : (f : ℕ → ℕ) (d : List P) → Upto 0 f (length d) 0 (values d)
  painted_none f d = subst (λ n. Upto 0 f n 0 (values d)) (values-length d) (upto_none 0 f (values d))

  pub painted_more : {f : ℕ → ℕ} {n i : ℕ} {d : List P} {v : P} → Upto 0 f n i (values d) → i < n → value v ≡ f i → Upto 0 f n (i + 1) (values (set d i v))
  painted_more {f} {n} {i} {d} {v} p h e = subst (λ m. Upto 0 f n (i + 1) m) (sym (values-set d i v)) (upto_more p h e)

  -- a part, and a row that a part was lent of
  pub values-take : (k : ℕ) (l : List P) → values (take k l) ≡ take k (values l)
  values-take k l = each (take k l) ∙ sym (take-map value k l) ∙ ap (take k) (sym (each l))

  pub values-drop : (k : ℕ) (l : List P) → values (drop k l) ≡ drop k (values l)
  values-drop k l = each (drop k l) ∙ sym (drop-map value k l) ∙ ap (drop k) (sym (each l))

  pub values-append : (l m : List P) → values (l ++ m) ≡ values l ++ values m
  values-append l m = each (l ++ m) ∙ map-append value l m ∙ ap₂ (λ (a b : List ℕ). a ++ b) (sym (each l)) (sym (each m))

  pub values-span : (l : List P) (a e : ℕ) → values (span l a e) ≡ span (values l) a e
  values-span l a e = values-take (e - a) (drop a l) ∙ ap (take (e - a)) (values-drop a l)

  pub values-splice : (d : List P) (a e : ℕ) (r : List P) → values (splice d a e r) ≡ splice (values d) a e (values r)
  values-splice d a e r =
      values-append (take a d) (r ++ drop (e - a) (drop a d))
      ∙ ap₂ (λ (x y : List ℕ). x ++ y) (values-take a d)
      (values-append r (drop (e - a) (drop a d)) ∙ ap (λ x. values r ++ x) (values-drop (e - a) (drop a d) ∙ ap (drop (e - a)) (values-drop a d)))

  -- what stands in a line that was painted
  pub value-stored : (l : List P) (k : ℕ) (z : P) → k < length (values l) → value (get_or l k z) ≡ get_or (values l) k 0
  value-stored l k z h = sym (values-nth l k z (subst (λ n. k < n) (values-length l) h))

  -- a row that is changed in place
  pub changed_none : (f : ℕ → ℕ) (d : List P) → Over 0 f (values d) 0 (values d)
  changed_none f d = over_none 0 f (values d)

  -- the pixel that comes next, as it is read
  pub changed_here : {f : ℕ → ℕ} {d₀ d : List P} {i : ℕ} {v : P} → Over 0 f (values d₀) i (values d) → i < length d → v ≡ get_or d i v → value v ≡ get_or (values d₀) i 0
  changed_here {f} {d₀} {d} {i} {v} p h e = value-read d i v h e ∙ over_here p

  pub changed_more : {f : ℕ → ℕ} {d₀ d : List P} {i : ℕ} {v : P} → Over 0 f (values d₀) i (values d) → i < length d₀ → value v ≡ f i
      → Over 0 f (values d₀) (i + 1) (values (set d i v))
  changed_more {f} {d₀} {d} {i} {v} p h e =
      subst (λ m. Over 0 f (values d₀) (i + 1) m) (sym (values-set d i v)) (over_more p (subst (λ n. i < n) (sym (values-length d₀)) h) e)

  pub changed_all : {f : ℕ → ℕ} {d₀ d : List P} {i : ℕ} → Over 0 f (values d₀) i (values d) → length d₀ ≤ i → values d ≡ row_of (length d₀) f
  changed_all {f} {d₀} {d} {i} p h =
      over_all p (subst (λ n. n ≤ i) (sym (values-length d₀)) h) ∙ ap (λ n. row_of n f) (values-length d₀)

  -- a part of a row, lent to a function that painted it: with the pixels before it, those up to its end are as f says
  pub painted_lent : {f g : ℕ → ℕ} {n i : ℕ} {r : List P} (d : List P) (a e : ℕ) → Upto 0 f n i (values d) → a ≤ i → a ≤ e → e ≤ n
      → values r ≡ row_of (length (span d a e)) g → ((k : ℕ) → a + k < e → g k ≡ f (a + k)) → Upto 0 f n e (values (splice d a e r))
  painted_lent {f} {g} {n} {i} {r} d a e u h m k is same =
      let long : length d ≡ n = sym (values-length d) ∙ u.len in
      let size : length (span d a e) ≡ e - a = length-part d a e (omega (arith, long)) in
      let end : a + (e - a) ≡ e = omega arith in
      let row : values r ≡ row_of (e - a) (λ j. f (a + j)) = is ∙ ap (λ w. row_of w g) size ∙ row_same 0 (e - a) g (λ j. f (a + j)) (λ j b. same j (omega arith)) in
      subst (λ q. Upto 0 f n q (values (splice d a e r))) end
      (upto_part a (e - a) u h (omega arith) (values-splice d a e r ∙ ap₂ (λ q s. splice (values d) a q s) (sym end) row))

  -- the first part, lent so
  pub painted_first : {f g : ℕ → ℕ} {r : List P} (d : List P) (e : ℕ) → e ≤ length d
      → values r ≡ row_of (length (take e d)) g → ((k : ℕ) → k < e → g k ≡ f k) → Upto 0 f (length d) e (values (r ++ drop e d))
  painted_first {f} {g} {r} d e k is same =
      let q : e - 0 ≡ e = omega arith in
      subst (λ m. Upto 0 f (length d) e (values (r ++ drop m d))) q
      (painted_lent {f = f} {g = g} d 0 e (painted_none f d) (omega arith) (omega arith) k
      (subst (λ m. values r ≡ row_of (length (take m d)) g) (sym q) is) (λ j h. same j (omega arith) ∙ ap f (omega arith)))
