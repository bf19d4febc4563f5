use Rattle.blocks.proofs.Usual.{◌∙◌, arith}
use Rattle.blocks.proofs.Laws.WMask.Ready.{each_met}
use Rattle.blocks.proofs.Laws.WMask.Weighed.{weigh, mixed_by, Kept, kept, kept_room}
use Rattle.blocks.proofs.w_mask.w_mask_rows.Goals as goal
use Rattle.blocks.proofs.w_mask.w_mask_rows.Goals.{Else-form}

-- without ss_hor, the mask has each weight
each : (g : _) (c : Else-form g) → let a = c.args in
    Kept (weigh a.depth a.d.bits a.tmp1.now a.tmp2.now a.block.w)
    a.mask.now a.form.stride a.block.w a.block.h c.keep_mask.new.mask
each g c =
    let p = c.requires in
    each_met c.args.sign _ _ p.2 c.if-form.false (rw c.bits_of-bits.ensures.is at c.keep_mask.ensures) p.1.mask

pub mask_rows-requires : goal.mask_rows-requires
mask_rows-requires g c =
    let p = c.requires in
    (p.1.block, p.0, p.1.tmp1, p.1.tmp2, kept_room (each g (goal.at.mask_rows-requires g c).Else-form), p.5, p.6, p.7)

pub returns-else-form : goal.returns-else-form
returns-else-form g c =
    let a = c.args in let p = c.requires in
    let k = each g (goal.at.returns-else-form g c).Else-form in (
      c.mask_rows.ensures ∙ kept (mixed_by a.d.max a.d.bits a.d.bias a.tmp1.now a.tmp2.now a.block.w) _ _ k (omega (arith, p.0, p.1.block)),
      rw c.bits_of-bits.ensures.is at c.keep_mask.ensures,
    )
