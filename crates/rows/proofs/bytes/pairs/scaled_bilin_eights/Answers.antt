use Rattle.rows.proofs.Usual.{◌≡◌, ◌+◌, ◌*◌, min, arith, subst, pos, length, Upto, upto_all}
use Rattle.rows.specs.inner.Scaled.{pair_mid}
use Rattle.rows.proofs.Laws.Blocks.Part.{upto_part}
use Rattle.rows.proofs.bytes.pairs.scaled_bilin_eights.Goals as goal

pub loop-k-preserved : goal.loop-k-preserved
loop-k-preserved c =
    let a = c.args in
    let next : c.eight_from.result + 8 ≡ min (8 * (c.loop-k.k + 1)) (length a.mid.now) = omega arith in
    subst (λ i. Upto (pos 0) (pair_mid a.src.now a.pixels.now a.fractions.now 0) (length a.mid.now) i c.scaled_bilin_eight.new.mid) next
    (upto_part _ 8 c.loop-k.invariant (omega arith) (omega arith) c.scaled_bilin_eight.ensures)

pub returns : goal.returns
returns c = upto_all c.loop-k.invariant (omega arith)
