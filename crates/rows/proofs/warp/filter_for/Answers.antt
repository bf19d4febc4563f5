use Rattle.rows.proofs.Usual.{◌≡◌, ◌∙◌, ◌<◌, ◌/◌, arith, T, ℤ, nat_abs, length, w32, w16, SFits, to_z, of_z, back, fit}
use lib.Signed.{non_neg}
use Rattle.rows.specs.Warp.{filter_no}
use Rattle.rows.proofs.Laws.Filters.Warp.{in_place, lent-filter}
use Rattle.rows.proofs.warp.filter_for.Goals as goal
use Rattle.rows.proofs.warp.filter_for.Goals.{After-filter_no}

module _ (c : After-filter_no) where
  abbrev Z : ℤ
  Z = let s = c.args in filter_no s.by.m s.by.a s.by.b s.r s.c

  f : SFits w32 c.filter_no.result
  f = omega arith

  is : to_z w32 (of_z w32 c.filter_no.result) ≡ Z
  is =
      let s = c.args.by in let g = c.struct_told-3-1.given in
      back f
      ∙ (rw (back {z = s.m} (fit w32 g.0.1), back {z = s.a} (fit w16 g.1.0.1), back {z = s.b} (fit w16 g.1.1.0.1))
      at c.filter_no.ensures)

  inside : T (non_neg Z) × (nat_abs Z < length c.args.table.now / 8)
  inside = in_place _ Z c.requires.3

pub overflow_cast-q : goal.overflow_cast-q
overflow_cast-q c = rw (is c) ((inside c).0, omega (arith, (inside c).1))

pub slice_bounds-result-end : goal.slice_bounds-result-end
slice_bounds-result-end c = rw (is c) (omega (arith, (inside c).1))

pub returns : goal.returns
returns c = let s = (goal.at.returns c).After-filter_no in rw (is s) (lent-filter _ _ (omega (arith, (inside s).1)))
