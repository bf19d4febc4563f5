use Rattle.blocks.proofs.Usual.{refl}
use Rattle.blocks.specs.WMask.{flags_ok}
use Rattle.blocks.proofs.frame.flags_ok.Goals as goal

pub returns : goal.returns
unfolding flags_ok
returns c = refl
