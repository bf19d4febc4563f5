use Rattle.rows.specs.Combine.{blend}
use Rattle.rows.proofs.blend.blend_px.Goals as goal

pub returns : goal.returns
unfolding blend
returns g c = rw (c.from_u32.ensures, c.to_u32.ensures.is, c.to_u32-2.ensures.is)
