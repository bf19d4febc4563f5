-- An order, refusal number 5: the lent plane is tested whole, as for a window. Assumes nothing.
use mathlib.Core.Path.{◌≡◌, refl}
use mathlib.Core.Bool.{Bool, true}
use Prim.Native.Nat.{ℕ, ◌≤◌}
use lib.ListN.{length}
use Rattle.rows.proofs.Laws.Blocks.Fill.{and_true}
use Rattle.blocks.specs.Refuse.{holds}
use Rattle.blocks.specs.Window.{lent_w, lent_h}
use Rattle.blocks.specs.Order.{Setting, order_tests}
use Rattle.blocks.specs.declared.order.Order.{Order}
use Rattle.blocks.proofs.Laws.Calls.Given.{met}
use Rattle.blocks.proofs.Laws.Window.Places.{PlaneHeld, plane-inside, inside-plane}

module _ (s : Setting) (named : Bool) (o : Order) (sl dl ds : ℕ) where
  pub order_inside : met 5 (order_tests s named o sl dl ds) ≡ true → PlaneHeld s.lent
  order_inside e = plane-inside s.lent (and_true (holds (length s.lent.plane) s.lent.stride (lent_w s.lent) (lent_h s.lent)) true e).0

  pub inside_order : 1 ≤ lent_w s.lent → 1 ≤ lent_h s.lent → PlaneHeld s.lent → met 5 (order_tests s named o sl dl ds) ≡ true
  inside_order w1 h1 f = rw (inside-plane s.lent w1 h1 f) refl
