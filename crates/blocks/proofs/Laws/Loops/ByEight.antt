-- A block by two passes, eight rows at a time, where the loop counts the groups: `for group in 0..(h + 7) / 8`, of which each makes the k rows from row
-- 8 * group on, eight or those that are left. Assumes nothing.
use Rattle.blocks.proofs.Usual.{List, ◌≡◌, ◌∙◌, sym, ap, subst, ℕ, ◌≤◌, ◌*◌, ◌+◌, ◌-◌, ◌<◌, ◌/◌, min, arith, ℤ, length, span, splice, fill, Rows, Filled}
use Rattle.blocks.proofs.Usual.{filled_none}
use mathlib.Core.List.{map}
use Rattle.rows.proofs.Laws.Pixels.Values.{values-length, values-span, values-splice}
use Rattle.blocks.specs.inner.Groups.{carried}
use Rattle.blocks.proofs.Laws.Loops.Groups.{Grouped, HoldsRows, filled_group, grouped_next, grouped_last}
use Rattle.blocks.proofs.Laws.Loops.Shown.{rows_shown}

-- the rows that are made before a group
abbrev pub rows_before : (h group : ℕ) → ℕ
rows_before h group = min (8 * group) h

-- in a turn
pub record GroupAt (h group k : ℕ) : Type 0 where
  pub within : 8 * group < h
  pub here : rows_before h group ≡ 8 * group
  pub next : 8 * group + k ≡ rows_before h (group + 1)
  pub whole : 8 * group + k < h → k ≡ 8

pub group_at : {h group k : ℕ} → group < (h + 7) / 8 → k ≡ min 8 (h - 8 * group) → GroupAt h group k
group_at lt e = record { within = omega arith; here = omega arith; next = omega arith; whole = λ b. omega arith }

-- ---- where the loop stands
module _ {A : Type 0} {c ml s w : ℕ} {F : ℕ → ℕ → A} {G : ℕ → ℕ → ℤ} {d₀ : List A} {h : ℕ} where
  -- before it, with the rows that the first group begins with
  pub grouped_first : (z : A) {m : List ℤ} → 0 < s → length m ≡ ml → HoldsRows w G m 0 c → Grouped c ml s w F G d₀ h d₀ m (rows_before h 0)
  grouped_first z {m} some long rows =
      let e : 0 ≡ rows_before h 0 = omega arith in
      subst (Grouped c ml s w F G d₀ h d₀ m) e (record { dst = filled_none z s w F d₀ h some; long = long; rows = λ lt. rows })

  module _ {d : List A} {m : List ℤ} {group k : ℕ} (t : GroupAt h group k) where
    -- before a group
    pub grouped_here : Grouped c ml s w F G d₀ h d m (rows_before h group) → Grouped c ml s w F G d₀ h d m (8 * group)
    grouped_here p = subst (Grouped c ml s w F G d₀ h d m) t.here p

    -- after a group that isn't the last one, with the rows carried over, and after the last
    pub grouped_more : {m' : List ℤ} → 8 * group + k < h → w ≤ 64 → (8 + c) * 64 ≤ ml → Filled s w F d₀ h (8 * group + k) d
        → (length m ≡ ml) × HoldsRows w G m (8 * group) (c + k) → m' ≡ carried (c * 64) m → Grouped c ml s w F G d₀ h d m' (rows_before h (group + 1))
    grouped_more {m'} more wide room p held is =
        subst (Grouped c ml s w F G d₀ h d m') t.next (grouped_next k (t.whole more) wide room p held.0 held.1 is)

    pub grouped_end : h ≤ 8 * group + k → Filled s w F d₀ h (8 * group + k) d → length m ≡ ml → Grouped c ml s w F G d₀ h d m (rows_before h (group + 1))
    grouped_end end p long = subst (Grouped c ml s w F G d₀ h d m) t.next (grouped_last end p long)

-- ---- a destination of pixels, by their numbers
module _ {P : Type 0} {value : P → ℕ} {values : List P → List ℕ} (each : (l : List P) → values l ≡ map value l) {s w : ℕ} {F : ℕ → ℕ → ℕ} {d₀ : List P}
    {h y : ℕ} {d : List P} (p : Filled s w F (values d₀) h y (values d)) where
  pub shown_long : length d ≡ length d₀
  shown_long = sym (values-length each d) ∙ p.len ∙ values-length each d₀

  -- k rows from row y on were lent as `&mut d[y * s..e]`, and came back with the block f of k rows: that is the picture's next k rows
  pub shown_group : Rows (length d₀) s w h → 1 ≤ w → (k : ℕ) → 1 ≤ k → y + k ≤ h → (f : ℕ → ℕ → ℕ)
      → ((i j : ℕ) → i < w → j < k → f i j ≡ F i (y + j)) → (e : ℕ) → e ≡ y * s + (k - 1) * s + w → (r : List P)
      → values r ≡ fill (values (span d (y * s) e)) s w k f → Filled s w F (values d₀) h (y + k) (values (splice d (y * s) e r))
  shown_group rows w1 k k1 more f same e end r is =
      subst (Filled s w F (values d₀) h (y + k)) (sym (values-splice each d (y * s) e r))
      (filled_group 0 p (rows_shown each d₀ rows) w1 k k1 more f same e end (values r) (is ∙ ap (λ (l : List ℕ). fill l s w k f) (values-span each d (y * s) e)))
