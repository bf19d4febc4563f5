-- C1 to C10: the definitions give the numbers that document 01 states, by computation. Assumes nothing.
use Rattle.rows.proofs.Usual.{◌≡◌, refl, low16, sum_z}
use mathlib.Core.List.{map}
use Rattle.rows.specs.Numbers.{low32}
use Rattle.rows.specs.Places.{fill, fill_in, paint, in_block}
use Rattle.rows.specs.Combine.{avg, weighted}
use Rattle.rows.specs.Subpel.{S, tapped, mid, put8, prep8}
use Rattle.rows.specs.Bilinear.{bilin, R, along, put_bilin}
use Rattle.rows.specs.WMask.{weight_of, mask_at}
use Rattle.rows.specs.Edge.{endless, edge}
use Rattle.rows.specs.Shear.{Q}
use Rattle.rows.specs.Worked.{cases}

pub worked : map (λ c. c.given) cases ≡ map (λ c. c.stated) cases
unfolding low16 low32 sum_z fill fill_in paint in_block avg weighted S tapped mid put8 prep8 bilin R along put_bilin weight_of mask_at endless edge Q
worked = refl
