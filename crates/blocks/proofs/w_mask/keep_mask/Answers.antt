use Rattle.blocks.proofs.Usual.{true, ◌≡◌}
use Rattle.rows.specs.WMask.{mask_at}
use Rattle.blocks.proofs.Laws.WMask.Ready.{flags_met}
use Rattle.blocks.proofs.w_mask.keep_mask.Goals as goal
use Rattle.blocks.proofs.w_mask.keep_mask.Goals.{Then-form}

-- with ss_ver, ss_hor
hor : (c : Then-form) → c.args.form.ss_hor ≡ true
hor c = flags_met _ _ c.requires.1 c.if-form.true

pub keep_fours-requires : goal.keep_fours-requires
keep_fours-requires c =
    let p = c.requires in (rw (hor (goal.at.keep_fours-requires c).Then-form, c.if-form.true) at p.0, p.2, p.3)

pub returns-then-form : goal.returns-then-form
returns-then-form c = rw (hor (goal.at.returns-then-form c).Then-form, c.if-form.true) c.keep_fours.ensures

pub returns-else-form-2 : goal.returns-else-form-2
unfolding mask_at
returns-else-form-2 c = rw (c.if-form-2.false, c.if-form.false) c.keep_each.ensures
