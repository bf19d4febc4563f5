use Rattle.blocks.proofs.Usual.{◌∙◌, refl, ◌+◌, arith, rules, clip, Turn}
use Rattle.rows.specs.Bilinear.{R}
use Rattle.blocks.proofs.Laws.Loops.Shown.{shown_none, shown_more, shown_turn}
use Rattle.blocks.proofs.Laws.Scaled.Pairs.{two_row, parity_small}
use Rattle.blocks.proofs.Laws.Scaled.Turns.{two_kept_none, two_kept_next, pairs_asked}
use Rattle.blocks.proofs.scaled.kernels.put_bilin_scaled_rows.Goals as goal
use Rattle.blocks.proofs.scaled.kernels.put_bilin_scaled_rows.Goals.{In-loop-y}

row : (g : _) (c : In-loop-y g) → let a = c.args in Turn a.dst_stride a.w c.loop-y.y c.loop-y.dst
row g c = shown_turn g.met.P.Pixel.each c.loop-y.invariant.0 c.requires.1 c.loop-y-test.true

pub loop-y-init : goal.loop-y-init
loop-y-init g c = (shown_none g.met.P.Pixel.each _ _ (omega (arith, c.requires)), two_kept_none refl)

pub next_pairs-requires : goal.next_pairs-requires
next_pairs-requires g c =
    let k = c.loop-y.invariant.1 in let p = c.requires in
    (k.long, k.last, k.below, pairs_asked p.2 c.loop-y-test.true, p.3, c.tabulate_columns.ensures)

pub mid_bilin_row-requires : goal.mid_bilin_row-requires
mid_bilin_row-requires g c =
    let t = row g (goal.at.mid_bilin_row-requires g c).In-loop-y in
    (omega (arith, t, c.requires.0), parity_small _ c.by_parity.ensures, omega (arith, c.bits_of-r.ensures.fits), c.requires.4)

pub loop-y-preserved : goal.loop-y-preserved
loop-y-preserved g c =
    let p = c.requires in let y = c.loop-y.y in
    let t = row g (goal.at.loop-y-preserved g c).In-loop-y in (
      shown_more g.met.P.Pixel.each _ c.loop-y.invariant.0 p.0.w1 p.1 c.loop-y-test.true
          (rw (c.by_parity.ensures, c.bits_of-r.ensures.is) at c.mid_bilin_row.ensures
          ∙ two_row _ c.next_pairs.ensures 0 (λ v. clip c.args.max (R (4 + c.args.p.bits) v)) _ t.long),
      two_kept_next y (omega arith) c.next_pairs.ensures,
    )

-- the row's first place is within dst, whose pixels fit memory
pub offset_bounds-dst-d : goal.offset_bounds-dst-d
offset_bounds-dst-d g c = let t = row g (goal.at.offset_bounds-dst-d g c).In-loop-y in search rules
