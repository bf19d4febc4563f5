use Rattle.blocks.proofs.Usual.{◌≡◌, ◌∙◌, refl, ap, arith, pos, w16, to_z, low16, minus16, backn, Turn, turn, filled_none, filled_more}
use Rattle.rows.specs.Bilinear.{R}
use Rattle.blocks.proofs.Laws.Scaled.Pairs.{two_row, parity_small}
use Rattle.blocks.proofs.Laws.Scaled.Turns.{two_kept_none, two_kept_next, pairs_asked}
use Rattle.blocks.proofs.scaled.kernels.prep_bilin_scaled_rows.Goals as goal
use Rattle.blocks.proofs.scaled.kernels.prep_bilin_scaled_rows.Goals.{In-loop-y}

row : (g : _) (c : In-loop-y g) → let a = c.args in Turn a.tmp_stride a.w c.loop-y.y c.loop-y.tmp
row g c = turn (pos 0) c.loop-y.invariant.0 c.requires.1 c.loop-y-test.true

-- the bias, as the rows take it
less : (g : _) (c : In-loop-y g) → to_z w16 c.bias_of-less.result ≡ pos c.args.bias
less g c =
    let b = c.bias_of-less in
    backn w16 b.result (omega (arith, b.ensures.fits)) ∙ ap pos b.ensures.is

pub loop-y-init : goal.loop-y-init
loop-y-init g c = (filled_none (pos 0) _ _ _ _ _ (omega (arith, c.requires)), two_kept_none refl)

pub next_pairs-requires : goal.next_pairs-requires
next_pairs-requires g c =
    let k = c.loop-y.invariant.1 in let p = c.requires in
    (k.long, k.last, k.below, pairs_asked p.2 c.loop-y-test.true, p.3, c.tabulate_columns.ensures)

pub mid_bilin_prep_row-requires : goal.mid_bilin_prep_row-requires
mid_bilin_prep_row-requires g c =
    let t = row g (goal.at.mid_bilin_prep_row-requires g c).In-loop-y in
    (omega (arith, t, c.requires.0), parity_small _ c.by_parity.ensures, omega arith)

pub loop-y-preserved : goal.loop-y-preserved
loop-y-preserved g c =
    let p = c.requires in let y = c.loop-y.y in
    let s = (goal.at.loop-y-preserved g c).In-loop-y in (
      filled_more (pos 0) _ c.loop-y.invariant.0 p.0.w1 p.1 c.loop-y-test.true
          (rw (c.by_parity.ensures, less g s) at c.mid_bilin_prep_row.ensures
          ∙ two_row _ c.next_pairs.ensures (pos 0) (λ v. minus16 (low16 (R 4 v)) (pos c.args.bias)) _ (row g s).long),
      two_kept_next y (omega arith) c.next_pairs.ensures,
    )
