-- A plane of four different pixels, tables of filters, and orders on it. Assumes nothing.
use mathlib.Core.Bool.{false, true, cond}
use mathlib.Core.List.{List, [], ◌∷◌}
use Prim.Native.Nat.{ℕ, ◌+◌, ◌*◌, ◌%◌}
use lib.Dec.{ltb}
use lib.IntN.{ℤ, pos}
use Rattle.rows.specs.Places.{row_of}
use Rattle.blocks.specs.Order.{Setting}
use Rattle.blocks.specs.declared.order.Order.{Order}
use Rattle.blocks.specs.declared.order.Kind.{Kind}

-- 0 200 / 100 40, m times as bright
abbrev pub shades : (m : ℕ) → List ℕ
shades m = 0 ∷ 200 * m ∷ 100 * m ∷ 40 * m ∷ []

abbrev pub on : (depth m : ℕ) → List ℤ → Setting
on depth m table =
    record {
      deep = true;
      depth = depth;
      lent = record {
        frame = record { luma_w = 2; luma_h = 2; ss_hor = false; ss_ver = false };
        plane_no = 0;
        plane = shades m;
        stride = 2;
      };
      tables = record { subpel = table; ext = []; warp = [] };
    }

-- each filter has the taps 1, 3, 5 .. 15
abbrev pub odd : List ℤ
odd = row_of 600 (λ t. pos (2 * (t % 8) + 1))

-- families 0 to 2 make every pixel 0, families 3 and 4 the mean of eight
abbrev pub low : List ℤ
low = row_of 600 (λ t. pos (cond (ltb t 360) 0 8))

abbrev pub order : Kind → (x y : ℤ) (w h : ℕ) → Order
order kind x y w h = record { x = x; y = y; w = w; h = h; kind = kind }

-- a destination, and a scratch that holds every window below
abbrev pub nines : ℕ → List ℕ
nines n = row_of n (λ t. 9)

abbrev pub scratch : List ℕ
scratch = row_of 128 (λ t. 0)

-- a number that a call doesn't use, or 0
abbrev pub none : ℤ
none = pos 0
