-- avg, w_avg and mask: what number 0 gives to their rows. Assumes nothing.
use Rattle.blocks.proofs.Usual.{true, Bool, ◌&&◌, ◌≡◌, ℕ, ◌<◌, arith, leb-true, pos, ℤ, negsuc, le_z, mag, lowest, holds, Rows, Block, and_true, rows_met}
use Rattle.blocks.proofs.Usual.{block_met, all_met, holds_met}
use Rattle.blocks.specs.Combine.{combine_tests, avg_tests, w_avg_tests, mask_tests, weight_ok}

-- a buffer of w x h places without gaps
whole_met : {w h : ℕ} (l : ℕ) → Block w h → holds l w w h ≡ true → Rows l w w h
whole_met {w} {h} l b e = record { wide = omega arith; most = omega (arith, b); fits = holds_met l w w h e }

combine_ready : (dl ds l1 l2 w h : ℕ) (other mask : Bool) → lowest (combine_tests dl ds l1 l2 w h other mask) ≡ 0
    → (other ≡ true) × (mask ≡ true) × (Block w h × Rows dl ds w h × Rows l1 w w h × Rows l2 w w h)
combine_ready dl ds l1 l2 w h other mask e =
    let m = all_met (combine_tests dl ds l1 l2 w h other mask) e in
    let t = m.1.1 in
    let u = t.1.1 in
    let b = block_met w h m.0 m.1.0 in
    (t.1.0, u.1.1.0, (b, rows_met dl ds w h t.0 u.1.1.1.0, whole_met l1 b u.0, whole_met l2 b u.1.0))

-- the largest weight is 32, the smallest -16
weight_met : (k : ℤ) → weight_ok k ≡ true → mag k < 33
unfolding weight_ok
weight_met (pos n) e = omega (arith, leb-true n 32 (and_true (le_z (negsuc 15) (pos n)) (le_z (pos n) (pos 32)) e).1)
weight_met (negsuc n) e = omega (arith, leb-true n 15 (and_true (le_z (negsuc 15) (negsuc n)) (le_z (negsuc n) (pos 32)) e).0)

-- ---- each kernel: what its rows take, and the outcome of the depth's test
pub avg_ready : {deep : Bool} {dl ds l1 l2 w h : ℕ} → lowest (avg_tests deep dl ds l1 l2 w h) ≡ 0
    → (deep ≡ true) × (Block w h × Rows dl ds w h × Rows l1 w w h × Rows l2 w w h)
avg_ready {deep} {dl} {ds} {l1} {l2} {w} {h} e = let p = combine_ready dl ds l1 l2 w h deep true e in (p.0, p.2)

pub w-avg_ready : {deep : Bool} {dl ds l1 l2 w h : ℕ} (weight : ℤ) → lowest (w_avg_tests deep dl ds l1 l2 w h weight) ≡ 0
    → (deep ≡ true) × (Block w h × Rows dl ds w h × Rows l1 w w h × Rows l2 w w h × (mag weight < 33))
w-avg_ready {deep} {dl} {ds} {l1} {l2} {w} {h} weight e =
    let p = combine_ready dl ds l1 l2 w h (deep && weight_ok weight) true e in
    let q = and_true deep (weight_ok weight) p.0 in
    (q.0, (p.2.0, p.2.1, p.2.2, p.2.3, weight_met weight q.1))

pub mask_ready : {deep : Bool} {dl ds l1 l2 w h ml : ℕ} → lowest (mask_tests deep dl ds l1 l2 w h ml) ≡ 0
    → (deep ≡ true) × (Block w h × Rows dl ds w h × Rows l1 w w h × Rows l2 w w h × Rows ml w w h)
mask_ready {deep} {dl} {ds} {l1} {l2} {w} {h} {ml} e =
    let p = combine_ready dl ds l1 l2 w h deep (holds ml w w h) e in
    (p.0, (p.2.0, p.2.1, p.2.2, p.2.3, whole_met ml p.2.0 p.1))
