-- What the filters' loops share: the end of a sum of eight taps, and one more intermediate of a row. Assumes nothing.
use Rattle.rows.proofs.Usual.{List, ◌≡◌, ◌∙◌, ◌+◌, ◌≤◌, ◌<◌, ◌^◌, ℕ, arith, pos, ℤ, set, mag, w16, SFits, to_z, of_z, sum_z, Upto, upto_more, back}
use Rattle.rows.proofs.Usual.{Summed, summed_mag}

pub summed_eight : {g : ℕ → ℤ} {j : ℕ} {s : ℤ} → j ≤ 8 → 8 ≤ j → Summed g (2 ^ 24) j s → (s ≡ sum_z 8 g) × (mag s < 2 ^ 30)
summed_eight {g} {j} {s} h k q =
    let e : j ≡ 8 = omega arith in
    let p = rw e at q in
    (p.is, omega (arith, summed_mag p))

-- an intermediate stands in its row as it was returned
pub upto_kept :
    {f : ℕ → ℤ} {n i : ℕ} {d : List ℤ} {v : ℤ} → Upto (pos 0) f n i d → i < n → SFits w16 v → v ≡ f i
    → Upto (pos 0) f n (i + 1) (set d i (to_z w16 (of_z w16 v)))
upto_kept p h s e = upto_more p h (back s ∙ e)
