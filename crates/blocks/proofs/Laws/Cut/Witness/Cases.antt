-- Blocks across the plane's left border, each cut into four: one text for each kind and depth. Assumes nothing.
use mathlib.Core.List.{List}
use Prim.Native.Nat.{ℕ, ◌+◌, ◌*◌}
use lib.IntN.{pos, negsuc}
use Rattle.rows.specs.Cut.{Rect}
use Rattle.blocks.specs.Order.{Setting, kind_of}
use Rattle.blocks.specs.declared.order.Order.{Order}
use Rattle.blocks.specs.declared.order.Kind.{Kind}
use Rattle.blocks.proofs.Laws.Cut.Witness.Four.{four}
use Rattle.blocks.proofs.Laws.Cut.Witness.Plane.{on, odd, order, nines, none}

pub record Case : Type 0 where
  -- the depth, and how bright the plane is
  pub depth : ℕ
  pub m : ℕ
  -- as a C function takes them
  pub kind : ℕ
  pub mx : ℕ
  pub my : ℕ
  -- the columns and the rows of the rectangles, and the destination's stride
  pub a : ℕ
  pub b : ℕ
  pub c : ℕ
  pub d : ℕ
  pub stride : ℕ

-- 3 x 3 pixels are copied, 2 x 2 are filtered on both axes
abbrev pub copied : (depth m : ℕ) → Case
copied depth m = record { depth = depth; m = m; kind = 0; mx = 0; my = 0; a = 1; b = 2; c = 2; d = 1; stride = 4 }

abbrev pub filtered : (depth m : ℕ) → Case
filtered depth m = record { depth = depth; m = m; kind = 1; mx = 3; my = 10; a = 1; b = 1; c = 1; d = 1; stride = 3 }

abbrev pub bilinear : (depth m : ℕ) → Case
bilinear depth m = record { depth = depth; m = m; kind = 2; mx = 5; my = 9; a = 1; b = 1; c = 1; d = 1; stride = 3 }

module _ (t : Case) where
  abbrev pub setting : Setting
  setting = on t.depth t.m odd

  abbrev pub kind_in : Kind
  kind_in = kind_of t.kind (pos t.mx) (pos t.my) none none none none none

  -- from column -1 of row 0 on
  abbrev pub block : Order
  block = order kind_in (negsuc 0) (pos 0) (t.a + t.b) (t.c + t.d)

  abbrev pub rects : List Rect
  rects = four t.a t.b t.c t.d

  abbrev pub places : ℕ
  places = (t.c + t.d) * t.stride

  abbrev pub before : List ℕ
  before = nines places
