use Rattle.rows.proofs.Usual.{◌-◌, ◌+◌, ℕ, arith, refl, ap, length, get_or, upto_all}
use Rattle.rows.proofs.Laws.Pixels.Values.{painted_first, painted_lent}
use Rattle.rows.proofs.copy.copy_ends.Goals as goal

-- the first k, then the last k
pub returns : goal.returns
returns g c =
    let a = c.args in
    let each = g.met.P.Pixel.each in
    let f : ℕ → ℕ = λ i. get_or (g.P.Pixel.values a.src.now) (a.o + i) 0 in
    let first = painted_first each {f = f} _ a.k (omega arith) c.copy_whole.ensures (λ j h. refl) in
    let last = painted_lent each {f = f} _ (length a.dst.now - a.k) _ first (omega arith) (omega arith) (omega arith) c.copy_whole-2.ensures (λ j h. ap (λ p. get_or (g.P.Pixel.values a.src.now) p 0) (omega arith)) in
    upto_all last (omega arith)
