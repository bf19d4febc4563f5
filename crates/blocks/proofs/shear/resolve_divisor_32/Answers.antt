use Rattle.blocks.proofs.Usual.{List, ◌≡◌, ◌∙◌, sym, ℕ, ◌+◌, arith, pos, lowest, length, get_or, w32, SFits, back, backn, refused}
use Rattle.rows.specs.Shear.{top_bit, recip_of, shift_of}
use Rattle.blocks.specs.inner.Ready.{Divides}
use Rattle.blocks.specs.Shear.{divisor_tests, divisor_of}
use Rattle.blocks.proofs.Laws.Calls.Refuse.{made}
use Rattle.blocks.proofs.Laws.Calls.Why.{refuses}
use Rattle.blocks.proofs.Laws.Warp.Shears.{div_ok, top-is, Top}
use Rattle.blocks.proofs.shear.resolve_divisor_32.Goals as goal

-- what the tests give that are met: the divisor, and its top bit
module _ (d : ℕ) (recip : List ℕ) (met : 0 ≡ lowest (divisor_tests d (length recip))) where
  ok : Divides d (length recip)
  ok = div_ok d (length recip) (sym met)

  top : {t : ℕ} → t ≡ top_bit d → Top d t
  top is = rw is (top-is d (omega (arith, ok)) (omega (arith, ok)))

pub returns-in-Err : goal.returns-in-Err
unfolding divisor_of
returns-in-Err c =
    let n = c.number.ensures in let e = n ∙ c.in-Err.ensures in
    rw e (sym (refused _ _ _ (rw e at (refuses c.in-Err.why n))))

pub returns : goal.returns
unfolding divisor_of recip_of shift_of
returns c =
    let place = c.recip_place-f in let bit = c.top_bit-t in let recip = c.args.recip.now in
    let e = c.in_default.ensures in
    let t = top c.args.d recip e bit.ensures in
    let f : SFits w32 (pos (bit.result + 9)) = omega (arith, t) in
    let y = backn w32 (get_or recip place.result 0) (omega (arith, c.type_inv.recip place.result)) in
    rw (y, place.ensures.0, backn w32 bit.result (omega (arith, t)), back f, bit.ensures, sym e) (made _ _)

pub top_bit-t-requires : goal.top_bit-t-requires
top_bit-t-requires c = omega (arith, ok c.args.d c.args.recip.now c.in_default.ensures)

pub recip_place-f-requires : goal.recip_place-f-requires
recip_place-f-requires c = (omega (arith, ok c.args.d c.args.recip.now c.in_default.ensures), c.top_bit-t.ensures)

pub bounds-recip-f : goal.bounds-recip-f
bounds-recip-f c = omega (arith, ok c.args.d c.args.recip.now c.in_default.ensures, c.recip_place-f.ensures.1)

pub overflow_cast-shift : goal.overflow_cast-shift
overflow_cast-shift c = omega (arith, top c.args.d c.args.recip.now c.in_default.ensures c.top_bit-t.ensures)

pub overflow_add-shift : goal.overflow_add-shift
overflow_add-shift c =
    let t = top c.args.d c.args.recip.now c.in_default.ensures c.top_bit-t.ensures in
    rw (backn w32 c.top_bit-t.result (omega (arith, t))) (omega (arith, t))
