-- blend's search, as the code goes. Only inner contracts name this: nobody need believe it. Assumes nothing.
use Rattle.std.specs.Prelude.{ℕ, ◌*◌, ltb, Option, Some, None}
use Rattle.rows.specs.Places.{pick}
use Rattle.blocks.specs.Blend.{spot_at}
use Rattle.blocks.specs.declared.blend.Spot.{Spot}

-- the place p of a block's values, none where it lies behind them
abbrev pub found_at : (w h p : ℕ) → Option Spot
found_at w h p = pick (ltb p (w * h)) (Some (spot_at w p)) None
