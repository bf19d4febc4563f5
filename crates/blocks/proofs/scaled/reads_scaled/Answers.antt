use Rattle.blocks.proofs.Usual.{◌≡◌, refl, sym, arith, rules, up}
use native.Mathlib.Numerals.{add-one}
use Rattle.rows.specs.Warp.{every}
use Rattle.blocks.specs.Scaled.{reads_scaled}
use Rattle.blocks.proofs.Laws.Scaled.Places.{last-column}
use Rattle.blocks.proofs.Laws.Scaled.Ready.{every-none, column_past}
use Rattle.blocks.proofs.scaled.reads_scaled.Goals as goal
use Rattle.blocks.proofs.scaled.reads_scaled.Goals.{After-up32-step}

-- start and step of the rows, and of the columns
motion : (c : After-up32-step) → let m = c.args.m in
    (c.up32.result ≡ up m.my) × (c.up32-2.result ≡ up m.dy) × (c.up32-start.result ≡ up m.mx) × (c.up32-step.result ≡ up m.dx)
motion c = (search rules, search rules, search rules, search rules)

pub returns-then-l : goal.returns-then-l
unfolding reads_scaled
returns-then-l c =
    let a = c.args in
    sym (every-none a.w _ 0 (omega arith) (column_past a.taps a.l.sl a.l.src_off a.l.src_stride _ _ (omega arith)))

pub returns-then-not-taps : goal.returns-then-not-taps
unfolding reads_scaled
returns-then-not-taps c =
    let a = c.args in let m = motion (goal.at.returns-then-not-taps c).After-up32-step in
    rw (c.column_read.ensures, c.if-not-taps.true, m.0, m.1, m.2, m.3) (last-column a.l.sl a.l.src_off a.l.src_stride _ a.w _ _ (omega arith))

pub loop-x-init : goal.loop-x-init
unfolding every
loop-x-init c = refl

pub loop-x-preserved : goal.loop-x-preserved
unfolding every
loop-x-preserved c = let l = c.loop-x in rw (c.column_read-ok.ensures, add-one l.x, l.invariant) refl

pub returns : goal.returns
unfolding reads_scaled
returns c =
    let l = c.loop-x in let m = motion (goal.at.returns c).After-up32-step in
    let end : l.x ≡ c.args.w = omega arith in
    rw (l.invariant, end, m.0, m.1, m.2, m.3) refl
