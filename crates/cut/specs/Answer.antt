-- What a run over the tiles of a block answers. Assumes nothing.
use Rattle.std.specs.Prelude.{ℕ, ◌<◌, false, List, ◌≡◌, length}
use Rattle.rows.specs.Places.{fill}
use Rattle.rows.specs.Cut.{Rect, Inside, SameSide}
use Rattle.blocks.specs.Refuse.{holds}
use Rattle.blocks.specs.Order.{Setting, endless_put}
use Rattle.blocks.specs.Cut.{put_number}
use Rattle.blocks.specs.declared.order.Order.{Order}

-- why r is answered of the block that o orders, whose kind has the number kind, with a scratch of sl places and a dst of dl places
pub data Refusal (s : Setting) (o : Order) (kind sl stride dl r : ℕ) : Type 0 where
  -- the stride doesn't carry its row
  narrow : r ≡ 2 → stride < o.w → Refusal s o kind sl stride dl r
  -- it isn't copied, 8-tap or bilinear
  warped : r ≡ 3 → 2 < kind → Refusal s o kind sl stride dl r
  -- dst doesn't hold it
  short : r ≡ 6 → holds dl stride o.w o.h ≡ false → Refusal s o kind sl stride dl r
  -- the call of a tile is refused
  tile : (t : Rect) → Inside o.w o.h t → SameSide o.w o.h t → r ≡ put_number s o sl stride dl t → Refusal s o kind sl stride dl r

-- the number r, and dst at the end
pub record TilesAnswer (s : Setting) (o : Order) (kind sl stride : ℕ) (dst : List ℕ) (r : ℕ) (dst' : List ℕ) : Type 0 where
  -- "the result is the block predicted on that endless plane, and no destination pixel outside it changes"
  pub done : r ≡ 0 → dst' ≡ fill dst stride o.w o.h (endless_put s o)
  pub refused : (r ≡ 0 → ⊥) → Refusal s o kind sl stride (length dst) r
