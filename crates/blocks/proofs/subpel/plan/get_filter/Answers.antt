use Rattle.blocks.proofs.Usual.{◌≡◌, ◌∙◌, ap, ℕ, ◌*◌, ◌+◌, ◌-◌, ◌<◌, ◌%◌, arith, up, dn, rd, signed}
use Rattle.rows.specs.Subpel.{family}
use Rattle.blocks.specs.inner.Subpel.{filter_of}
use Rattle.blocks.specs.declared.subpel.plan.Filter.TheVariants.{Subpel}
use Rattle.blocks.proofs.Laws.Subpel.Choice.{filter_off, filter-ext, filter-sub, family-low, family-high}
use Rattle.blocks.proofs.subpel.plan.get_filter.Goals as goal
use Rattle.blocks.proofs.subpel.plan.get_filter.Goals.{After-up32-n, After-up32-t}

-- the fraction, as it is carried
n-is : (c : After-up32-n) → (c.up32-n.result ≡ up c.args.f) × (c.up32-n.result < 2147483648)
n-is c = (omega (arith, c.up32-n.ensures, rd c.ranges.f), omega (arith, c.up32-n.ensures, rd c.ranges.f))

-- and the type
t-is : (c : After-up32-t) → (c.up32-t.result ≡ up c.args.filter_type) × (dn c.args.filter_type ≡ 0) × (c.up32-t.result < 2147483648)
t-is c =
    let f = rd c.ranges.filter_type in
    (omega (arith, c.up32-t.ensures), omega (signed, c.if-filter_type-lt0.false), omega (arith, c.up32-t.ensures))

-- the number in subpel, of the family m
number : (c : After-up32-t) (m : ℕ) → m ≡ family (up c.args.filter_type) c.args.side
    → Subpel (15 * m + (c.up32-n.result - 1)) ≡ filter_of c.args.filter_type (up c.args.f) c.args.side
number c m e =
    let n = n-is c.before.before.before in
    rw n.0 (filter-sub c.args.filter_type _ _ m (omega (arith, n, c.if-n-eq0.false)) (t-is c).1 e)

pub returns-then-n-eq0 : goal.returns-then-n-eq0
returns-then-n-eq0 c = filter_off _ _ _ (omega (arith, n-is (goal.at.returns-then-n-eq0 c).After-up32-n))

pub returns-then-filter_type-lt0 : goal.returns-then-filter_type-lt0
returns-then-filter_type-lt0 c =
    let n = n-is (goal.at.returns-then-filter_type-lt0 c).After-up32-n in
    rw n.0 (filter-ext c.args.filter_type _ _ (omega (arith, n, c.if-n-eq0.false)) (omega (signed, rd c.ranges.filter_type)))

pub returns-then-side-le4 : goal.returns-then-side-le4
returns-then-side-le4 c =
    let t = (goal.at.returns-then-side-le4 c).After-up32-t in
    number t _ (ap (λ (n : ℕ). 3 + n % 2) (t-is t).0 ∙ family-low _ _ c.if-side-le4.true)

pub returns : goal.returns
returns c =
    let t = (goal.at.returns c).After-up32-t in
    number t _ ((t-is t).0 ∙ family-high _ _ c.if-side-le4.false)
