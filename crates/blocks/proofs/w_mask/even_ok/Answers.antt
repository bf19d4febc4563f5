use Rattle.blocks.proofs.Usual.{refl}
use Rattle.blocks.specs.WMask.{even_ok}
use Rattle.blocks.proofs.w_mask.even_ok.Goals as goal

pub returns : goal.returns
unfolding even_ok
returns c = refl
