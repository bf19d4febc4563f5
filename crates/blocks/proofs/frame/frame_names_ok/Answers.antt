use Rattle.blocks.proofs.Usual.{Bool, ◌&&◌, ap, leb, frame_names_ok}
use Rattle.blocks.proofs.frame.frame_names_ok.Goals as goal

pub returns : goal.returns
unfolding frame_names_ok
returns c = ap (λ (b : Bool). b && leb c.args.plane_no 1) c.flags_ok.ensures
