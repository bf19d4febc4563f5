use Rattle.blocks.proofs.Usual.{List, ◌≡◌, ◌∙◌, ap, ◌-◌, arith, rules, ℤ, up, half, ℕ}
use Rattle.rows.specs.Subpel.{axis, filter_bits}
use Rattle.blocks.specs.Subpel.{on}
use Rattle.blocks.specs.inner.Subpel.{axis_of, filter_of, taps_of, in_memory}
use Rattle.blocks.specs.declared.subpel.plan.Filter.{Filter}
use Rattle.blocks.proofs.Laws.Subpel.Choice.{axis_of_lem, plan_none, plan_down, plan_across, plan_both}
use Rattle.blocks.proofs.subpel.plan.plan_8tap.Goals as goal
use Rattle.blocks.proofs.subpel.plan.plan_8tap.Goals.{After-half_power-round}

-- what has been worked out before the cases part
record Known (c : After-half_power-round) : Type 0 where
  n : c.filter_bits-n.result ≡ filter_bits c.args.m.filter_type
  f : let a = c.args in c.taps-f.result ≡ taps_of (axis a.subpel.now a.ext.now a.m.filter_type (up a.m.mx) a.w)
  g : let a = c.args in c.taps-g.result ≡ taps_of (axis a.subpel.now a.ext.now a.m.filter_type (up a.m.my) a.h)
  x : c.on_axis-x.result ≡ on c.args.m.mx
  y : c.on_axis-y.result ≡ on c.args.m.my
  r : c.half_power-round.result ≡ half (filter_bits c.args.m.filter_type)

known : (c : After-half_power-round) → Known c
known c =
    let a = c.args in
    let t = a.m.filter_type in
    let n : c.filter_bits-n.result ≡ filter_bits t = search rules in
    let across : c.get_filter.result ≡ filter_of t (up a.m.mx) a.w = search rules in
    let down : c.get_filter-2.result ≡ filter_of t (up a.m.my) a.h = search rules in
    let by : Filter → List ℤ = λ k. taps_of (axis_of a.subpel.now a.ext.now k) in
    record {
      n = n;
      f = c.taps-f.ensures ∙ ap by across ∙ ap taps_of (axis_of_lem _ _ t _ _);
      g = c.taps-g.ensures ∙ ap by down ∙ ap taps_of (axis_of_lem _ _ t _ _);
      x = search rules;
      y = search rules;
      r = rw n at c.half_power-round.ensures.0;
    }

pub returns-then-y-eq0 : goal.returns-then-y-eq0
returns-then-y-eq0 c =
    let k = known (goal.at.returns-then-y-eq0 c).After-half_power-round in
    c.by_one.ensures ∙ plan_none _ _ _ _ _ _ _ _ _ _ k.n k.r k.g (omega (arith, k.x)) (omega (arith, k.y))

pub returns-then-x-eq0 : goal.returns-then-x-eq0
returns-then-x-eq0 c =
    let k = known (goal.at.returns-then-x-eq0 c).After-half_power-round in
    let a = c.args in
    c.by_one-then-x-eq0.ensures
    ∙ plan_down _ _ _ _ _ _ _ _ _ _ k.n k.r c.stand_at-low.ensures (c.in_memory-g.ensures ∙ ap (in_memory a.s.back) k.g)
    (omega (arith, k.x)) (omega (arith, k.y))

pub returns-then-y-eq0-2 : goal.returns-then-y-eq0-2
returns-then-y-eq0-2 c =
    let k = known (goal.at.returns-then-y-eq0-2 c).After-half_power-round in
    let a = c.args in
    let q = c.half_power.ensures.0 ∙ ap (λ (n : ℕ). half (n - a.b)) k.n in
    c.by_one-then-y-eq0-2.ensures
    ∙ plan_across _ _ _ _ _ _ _ _ (up a.m.mx) (up a.m.my) k.n k.r q k.f c.stand_at-left.ensures (omega (arith, k.x)) (omega (arith, k.y))

pub returns : goal.returns
returns c =
    let k = known (goal.at.returns c).After-half_power-round in
    let a = c.args in
    let q = c.half_power.ensures.0 ∙ ap (λ (n : ℕ). half (n - a.b)) k.n in
    plan_both _ _ _ _ _ _ _ _ (up a.m.mx) (up a.m.my) k.n k.r q k.f c.stand_at-above.ensures k.g (omega (arith, k.x)) (omega (arith, k.y))
