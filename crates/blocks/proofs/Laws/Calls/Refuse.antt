-- What a number tells: 0, that every test is met. What a buffer holds then, and otherwise. Assumes nothing.
use Rattle.rows.proofs.Usual.{true, Bool, false, List, ◌≡◌, refl, ◌-◌, ◌+◌, ◌*◌, ◌≤◌, ◌<◌, ℕ, suc, zero, arith, ltb-true, ltb}
use mathlib.Core.Path.{sym, ◌∙◌}
use mathlib.Core.List.{[], ◌∷◌}
use Rattle.std.proofs.Common.{Result}
use Rattle.blocks.specs.declared.refuse.Refusal.{Refusal}
use borrow.Author.Tests.{leb-true, le-leb, lt-ltb, le-ltb}
use lib.Dec.{leb}
use Rattle.rows.proofs.Laws.Blocks.Fill.{and_true, and_false}
use Rattle.blocks.specs.Refuse.{Reason, size, stride, number, table, read, written, above64, matrix, number_of, reason_of, told, Test, need, lowest, or_same, size_ok, stride_ok, holds, reads}

-- each test of the list is met: a product, one part for each test
abbrev pub Met : List Test → Type 0
Met [] = Unit {0}
Met (t ∷ ts) = (t.meets ≡ true) × Met ts

-- no reason has the number 0
pub not_zero : (r : Reason) → number_of r ≡ 0 → ⊥
not_zero size e = omega arith
not_zero stride e = omega arith
not_zero number e = omega arith
not_zero table e = omega arith
not_zero read e = omega arith
not_zero written e = omega arith
not_zero above64 e = omega arith
not_zero matrix e = omega arith

first_met : (b : Bool) (r : Reason) (rest : ℕ) → need b (number_of r) rest ≡ 0 → (b ≡ true) × (rest ≡ 0)
unfolding need
first_met true r rest e = (refl, e)
first_met false r rest e = absurd (not_zero r e)

-- 0 is given only where all tests are met: the one law that turns a number into what a kernel may rely on
pub all_met : (ts : List Test) → lowest ts ≡ 0 → Met ts
all_met [] e = tt
all_met (t ∷ ts) e = let p = first_met t.meets t.reason (lowest ts) e in (p.0, all_met ts p.1)

-- and is given where they are
pub met_all : (ts : List Test) → Met ts → lowest ts ≡ 0
unfolding need
met_all [] m = refl
met_all (t ∷ ts) m = rw m.0 (met_all ts m.1)

-- ---- tests in two parts: n is what the later ones say
abbrev pub then : List Test → ℕ → ℕ
then [] n = n
then (t ∷ ts) n = need t.meets (number_of t.reason) (then ts n)

-- where the first part refuses nothing, the later tests give the number
pub later : (ts : List Test) (n : ℕ) → lowest ts ≡ 0 → n ≡ then ts n
unfolding need
later [] n e = refl
later (t ∷ ts) n e = let m = all_met (t ∷ ts) e in rw m.0 (later ts n (rw m.0 at e))

-- where it refuses, it gives the number, whatever the later tests say
pub sooner : (ts : List Test) (n : ℕ) → (lowest ts ≡ 0 → ⊥) → lowest ts ≡ then ts n
unfolding need
sooner [] n h = absurd (h refl)
sooner (t ∷ ts) n h = go t.meets h (sooner ts n) where
  go : (b : Bool) → (need b (number_of t.reason) (lowest ts) ≡ 0 → ⊥) → ((lowest ts ≡ 0 → ⊥) → lowest ts ≡ then ts n)
      → need b (number_of t.reason) (lowest ts) ≡ need b (number_of t.reason) (then ts n)
  go true h k = k h
  go false h k = refl

-- 0 is given only where neither part refuses
pub both_met : (ts : List Test) (n : ℕ) → then ts n ≡ 0 → (lowest ts ≡ 0) × (n ≡ 0)
unfolding need
both_met [] n e = (refl, e)
both_met (t ∷ ts) n e =
    let p = first_met t.meets t.reason (then ts n) e in
    let q = both_met ts n p.1 in
    (rw p.0 q.0, q.1)

-- ---- what a test that is met tells
pub size_met : (most n : ℕ) → size_ok most n ≡ true → (1 ≤ n) × (n ≤ most)
unfolding size_ok
size_met most n e = let p = and_true (leb 1 n) (leb n most) e in (leb-true 1 n p.0, leb-true n most p.1)

pub stride_met : (row s : ℕ) → stride_ok row s ≡ true → (row ≤ s) × (s ≤ 32768)
unfolding stride_ok
stride_met row s e = let p = and_true (leb row s) (leb s 32768) e in (leb-true row s p.0, leb-true s 32768 p.1)

pub holds_met : (l s w h : ℕ) → holds l s w h ≡ true → (h - 1) * s + w ≤ l
unfolding holds
holds_met l s w h e = leb-true ((h - 1) * s + w) l e

pub reads_met : (l o s w h b b' c c' : ℕ) → reads l o s w h b b' c c' ≡ true → (c * s + b ≤ o) × (o + (h - 1 + c') * s + (w - 1 + b') < l)
unfolding reads
reads_met l o s w h b b' c c' e =
    let p = and_true (leb (c * s + b) o) (ltb (o + (h - 1 + c') * s + (w - 1 + b')) l) e in
    (leb-true _ _ p.0, ltb-true _ _ p.1)

pub met_reads : (l o s w h b b' c c' : ℕ) → c * s + b ≤ o → o + (h - 1 + c') * s + (w - 1 + b') < l → reads l o s w h b b' c c' ≡ true
unfolding reads
met_reads l o s w h b b' c c' p q = rw (le-leb (c * s + b) o p, lt-ltb (o + (h - 1 + c') * s + (w - 1 + b')) l q) refl

-- ---- nothing is read past the end
pub reads_past : (l o s w h b b' c c' : ℕ) → l ≤ o → reads l o s w h b b' c c' ≡ false
unfolding reads
reads_past l o s w h b b' c c' e = rw (le-ltb (o + (h - 1 + c') * s + (w - 1 + b')) l (omega arith)) (and_false (leb (c * s + b) o))

-- ---- what a buffer holds at the end
module _ {A : Type 0} where
  pub done : (n : ℕ) (new old : A) → n ≡ 0 → or_same n new old ≡ new
  unfolding or_same
  done n new old e = rw e refl

  pub refused : (n : ℕ) (new old : A) → (n ≡ 0 → ⊥) → or_same n new old ≡ old
  unfolding or_same
  refused zero new old h = absurd (h refl)
  refused (suc n) new old h = refl

-- what a call that is done makes, and that everything stays in one that is refused: its answer has a number
pub made : {A : Type 0} (new old : A) → new ≡ or_same 0 new old
made new old = sym (done 0 new old refl)

pub stays : {A : Type 0} (r : Result Unit Refusal) (why : Refusal) (new old : A) → told r ≡ number_of (reason_of why) → old ≡ or_same (told r) new old
stays r why new old e = sym (refused (told r) new old λ z. not_zero (reason_of why) (sym e ∙ z))
