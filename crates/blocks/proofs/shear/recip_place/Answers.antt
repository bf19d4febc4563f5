use Rattle.blocks.proofs.Usual.{◌≡◌, sym, ◌<◌, ◌*◌, ◌-◌, ◌^◌, ◌%◌, arith}
use Rattle.blocks.proofs.Laws.Warp.Shears.{Top, top-is, one_shl, few, place_few, place_many, Many, many}
use Rattle.blocks.proofs.shear.recip_place.Goals as goal
use Rattle.blocks.proofs.shear.recip_place.Goals.{Start}

-- No bit is lost by a shift, and the place is at most 128.
at_top : (c : Start) → Top c.args.d c.args.t
at_top c = rw c.requires.1 (top-is c.args.d c.requires.0 c.ranges.d.fits)

one : (c : Start) → 1 * 2 ^ c.args.t % 4294967296 ≡ 2 ^ c.args.t
one c = one_shl c.args.t (at_top c).small

eighth : (c : Start) → 1 * 2 ^ (c.args.t - 8) % 4294967296 ≡ 2 ^ (c.args.t - 8)
eighth c = one_shl (c.args.t - 8) (omega (arith, at_top c))

at-many : (c : Start) → 7 < c.args.t → Many c.args.d c.args.t
at-many c large = many (at_top c) large c.ranges.d.fits

pub returns-then-t-le7 : goal.returns-then-t-le7
returns-then-t-le7 c =
    let s = (goal.at.returns-then-t-le7 c).Start in
    let l = few (at_top s) c.if-t-le7.true in
    let e : (c.args.d - 2 ^ c.args.t) * 2 ^ (7 - c.args.t) % 4294967296 ≡ (c.args.d - 2 ^ c.args.t) * 2 ^ (7 - c.args.t) = omega (arith, l) in
    rw (one s, e) (rw c.requires.1 (sym (place_few c.args.d (rw (← c.requires.1) c.if-t-le7.true))), omega (arith, l))

pub returns-else-t-le7 : goal.returns-else-t-le7
returns-else-t-le7 c =
    let s = (goal.at.returns-else-t-le7 c).Start in
    rw (one s, eighth s) (rw c.requires.1 (sym (place_many c.args.d (rw (← c.requires.1) c.if-t-le7.false))), (at-many s c.if-t-le7.false).last)

pub overflow_shl-e : goal.overflow_shl-e
overflow_shl-e c = (at_top c).small

pub overflow_sub-e : goal.overflow_sub-e
overflow_sub-e c = rw (one c) (at_top c).low

pub overflow_shl-result-else-t-le7 : goal.overflow_shl-result-else-t-le7
overflow_shl-result-else-t-le7 c = omega (arith, at_top (goal.at.overflow_shl-result-else-t-le7 c).Start)

pub overflow_add-result : goal.overflow_add-result
overflow_add-result c =
    let s = (goal.at.overflow_add-result c).Start in
    rw (one s, eighth s) (omega (arith, at-many s c.if-t-le7.false))

pub overflow_shr-result : goal.overflow_shr-result
overflow_shr-result c = omega (arith, at_top (goal.at.overflow_shr-result c).Start)
