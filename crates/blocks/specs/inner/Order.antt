-- Prediction orders, as the code goes. Only inner contracts name this: nobody need believe it. Assumes nothing.
use Rattle.std.specs.Prelude.{ℕ, ◌≡◌, Bool, List, length}
use Rattle.blocks.specs.Refuse.{or_same}
use Rattle.blocks.specs.Window.{LentPlane, area_of, no_part}
use Rattle.blocks.specs.inner.Window.{lent_of, area_at}
use Rattle.blocks.specs.Order.{Tables, Setting, mode_of, asked_by, order_number, order_scratch}
use Rattle.blocks.specs.declared.frame.Reference.{Reference}
use Rattle.blocks.specs.declared.window.Part.{Part}
use Rattle.blocks.specs.declared.order.Order.{Order}
use Rattle.blocks.specs.declared.order.TableLengths.{TableLengths}

-- a setting as functions are handed it. One that is handed only lengths of tables speaks of all tables of these lengths, and one that isn't handed the
-- depth, but the outcome of its test, of every depth
abbrev pub setting_of : (deep : Bool) (depth : ℕ) → Reference → (plane : List ℕ) → Tables → Setting
setting_of deep depth lent plane t = record { deep = deep; depth = depth; lent = lent_of lent plane; tables = t }

abbrev pub lengths_of : Tables → TableLengths
lengths_of t = record { subpel = length t.subpel; ext = length t.ext; warp = length t.warp }

-- the part that an order reads: where its tests give another number than 0, that number and zeros
unfoldable pub order_part : (verdict : ℕ) → LentPlane → Order → Part
order_part verdict p o = or_same verdict (area_at (area_of p (asked_by o)) (mode_of o.kind) p.stride) (no_part verdict)

-- what the tests and the window of an order gave: the part r, which has the tests' number, and scratch as it was filled
pub record OrderWindow (deep named : Bool) (lent : Reference) (plane : List ℕ) (o : Order) (t : TableLengths) (scratch : List ℕ) (dl dstStride : ℕ) (r : Part)
    (filled : List ℕ) : Type 0 where
  pub part : (depth : ℕ) (tables : Tables) → lengths_of tables ≡ t
      → r ≡ order_part (order_number (setting_of deep depth lent plane tables) named o (length scratch) dl dstStride) (lent_of lent plane) o
  pub full : filled ≡ order_scratch r.number (lent_of lent plane) o scratch
