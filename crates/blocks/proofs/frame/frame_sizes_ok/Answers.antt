use Rattle.blocks.proofs.Usual.{sym}
use Rattle.blocks.proofs.Laws.Window.OddPictures.{chroma_never_empty}
use Rattle.blocks.proofs.frame.frame_sizes_ok.Goals as goal

pub returns : goal.returns
returns c =
    rw (c.size_ok-2.ensures, c.size_ok.ensures) (sym (chroma_never_empty c.args.f c.args.plane_no))
