use Rattle.blocks.proofs.Usual.{w32, back, fit}
use Rattle.blocks.specs.Shear.{entries_ok}
use Rattle.blocks.proofs.shear.entries_ok.Goals as goal

pub returns : goal.returns
unfolding entries_ok
returns c =
    rw (
      c.within.ensures,
      c.within-2.ensures,
      c.within-3.ensures,
      c.within-4.ensures,
      back (fit w32 c.within-arg-1.given),
      back (fit w32 c.within-arg-2-1.given),
      back (fit w32 c.within-arg-3-1.given),
      back (fit w32 c.within-arg-4-1.given),
    )
