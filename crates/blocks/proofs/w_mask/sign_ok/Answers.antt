use Rattle.blocks.proofs.Usual.{back}
use Rattle.blocks.specs.WMask.{sign_ok}
use Rattle.blocks.proofs.w_mask.sign_ok.Goals as goal

pub returns : goal.returns
unfolding sign_ok
returns c = rw (back c.ranges.sign)
