-- A part of an array, written from its front by stores into the whole. Assumes nothing.
use Rattle.rows.proofs.Usual.{List, ◌≡◌, ◌∙◌, refl, ap, sym, subst, ◌-◌, ◌+◌, ◌≤◌, ◌<◌, ℕ, add-zero, arith, length, get_or, set, splice, row_of, by-lt}
use Rattle.rows.proofs.Usual.{Upto}
use lib.ListN.{length-set}
use lib.Seq.{ext_get_or, get_or-set_same, get_or-set_other}
use Rattle.rows.proofs.Laws.Blocks.Places.{length-row_of, get_d_row_of, splice-length, splice-before, splice_in, splice-after}

module _ {A : Type 0} where
  -- i of the w elements from place q on are as f says, and no other of d₀ has changed
  pub record PartUpto (z : A) (f : ℕ → A) (d₀ : List A) (q w i : ℕ) (d : List A) : Type 0 where
    pub le : i ≤ w
    pub len : length d ≡ length d₀
    pub done : (k : ℕ) → k < i → get_or d (q + k) z ≡ f k
    pub before : (p : ℕ) → p < q → get_or d p z ≡ get_or d₀ p z
    pub after : (p : ℕ) → q + i ≤ p → get_or d p z ≡ get_or d₀ p z

  pub part_none : (z : A) (f : ℕ → A) (d : List A) (q w : ℕ) → PartUpto z f d q w 0 d
  part_none z f d q w = record { le = omega arith; len = refl; done = λ k b. absurd (omega arith); before = λ p b. refl; after = λ p b. refl }

  pub part_more : {z : A} {f : ℕ → A} {d₀ : List A} {q w i : ℕ} {d : List A} {v : A} → PartUpto z f d₀ q w i d → i < w → q + w ≤ length d₀ → v ≡ f i
      → PartUpto z f d₀ q w (i + 1) (set d (q + i) v)
  part_more {z} {f} {d₀} {q} {w} {i} {d} {v} u lt fits e =
      record {
        le = omega arith;
        len = length-set d (q + i) v ∙ u.len;
        done = λ k b.
            by-lt k i (λ l. get_or-set_other d (q + i) (q + k) v z (omega arith) ∙ u.done k l)
            λ l.
            let s : k ≡ i = omega arith in
            subst (λ (n : ℕ). get_or (set d (q + i) v) (q + n) z ≡ f n) (sym s) (get_or-set_same d (q + i) v z (omega (arith, u.len)) ∙ e);
        before = λ p b. get_or-set_other d (q + i) p v z (omega arith) ∙ u.before p b;
        after = λ p b. get_or-set_other d (q + i) p v z (omega arith) ∙ u.after p (omega arith);
      }

  pub part_all : {z : A} {f : ℕ → A} {d₀ : List A} {q w i : ℕ} {d : List A} → PartUpto z f d₀ q w i d → w ≤ i → q + w ≤ length d₀
      → d ≡ splice d₀ q (q + w) (row_of w f)
  part_all {z} {f} {d₀} {q} {w} {i} {d} u h fits =
      let long : q + length (row_of w f) ≡ q + w = ap (λ (n : ℕ). q + n) (length-row_of w f) in
      let s = splice d₀ q (q + w) (row_of w f) in
      ext_get_or z d s (u.len ∙ sym (splice-length z d₀ q (q + w) (row_of w f) long fits))
      λ p b.
      by-lt p q (λ l. u.before p l ∙ sym (splice-before z d₀ q (q + w) (row_of w f) long fits p l))
      λ g.
      by-lt p (q + w)
      (λ l.
      let n = p - q in
      let e : q + n ≡ p = omega arith in
      subst (λ (m : ℕ). get_or d m z ≡ get_or s m z) e
      (u.done n (omega (arith, u.le)) ∙ sym (splice_in z d₀ q (q + w) (row_of w f) long fits n (omega arith) ∙ get_d_row_of z w f n (omega arith))))
      λ l. u.after p (omega (arith, u.le)) ∙ sym (splice-after z d₀ q (q + w) (row_of w f) long fits p l)

  -- the m elements from place a on are written anew, where the first i, a at least, were done: then the first a + m are
  pub upto_part : {z : A} {f : ℕ → A} {n i : ℕ} {d d' : List A} (a m : ℕ) → Upto z f n i d → a ≤ i → a + m ≤ n
      → d' ≡ splice d a (a + m) (row_of m (λ k. f (a + k))) → Upto z f n (a + m) d'
  upto_part {z} {f} {n} {i} {d} {d'} a m u le fits e =
      let r = row_of m (λ k. f (a + k)) in
      let long : a + length r ≡ a + m = ap (λ (k : ℕ). a + k) (length-row_of m (λ k. f (a + k))) in
      let room : a + m ≤ length d = omega (arith, u.len) in
      record {
        le = fits;
        len = ap length e ∙ splice-length z d a (a + m) r long room ∙ u.len;
        same = λ k b.
            ap (λ (l : List A). get_or l k z) e
            ∙ by-lt k a (λ l. splice-before z d a (a + m) r long room k l ∙ u.same k (omega arith))
            λ l.
            let q : a + (k - a) ≡ k = omega arith in
            subst (λ (p : ℕ). get_or (splice d a (a + m) r) p z ≡ f p) q
            (splice_in z d a (a + m) r long room (k - a) (omega arith) ∙ get_d_row_of z m (λ k. f (a + k)) (k - a) (omega arith));
      }

  -- eight elements from place q on, stored one after the other
  pub eight_stored : (z : A) (f : ℕ → A) (d : List A) (q : ℕ) {a b c e g h i j : A} → q + 8 ≤ length d
      → a ≡ f 0 → b ≡ f 1 → c ≡ f 2 → e ≡ f 3 → g ≡ f 4 → h ≡ f 5 → i ≡ f 6 → j ≡ f 7
      → set (set (set (set (set (set (set (set d q a) (q + 1) b) (q + 2) c) (q + 3) e) (q + 4) g) (q + 5) h) (q + 6) i) (q + 7) j
      ≡ splice d q (q + 8) (row_of 8 f)
  eight_stored z f d q {a} {b} {c} {e} {g} {h} {i} {j} fits ea eb ec ee eg eh ei ej =
      let s0 = part_more (part_none z f d q 8) (omega arith) fits ea in
      let s1 = part_more s0 (omega arith) fits eb in
      let s2 = part_more s1 (omega arith) fits ec in
      let s3 = part_more s2 (omega arith) fits ee in
      let s4 = part_more s3 (omega arith) fits eg in
      let s5 = part_more s4 (omega arith) fits eh in
      let s6 = part_more s5 (omega arith) fits ei in
      let s7 = part_more s6 (omega arith) fits ej in
      ap (λ (p : ℕ). set (set (set (set (set (set (set (set d p a) (q + 1) b) (q + 2) c) (q + 3) e) (q + 4) g) (q + 5) h) (q + 6) i) (q + 7) j)
      (sym (add-zero q))
      ∙ part_all s7 (omega arith) fits
