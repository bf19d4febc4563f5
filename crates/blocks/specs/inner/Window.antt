-- Windows, as the code goes. Only inner contracts name this: nobody need believe it. Assumes nothing.
use Rattle.std.specs.Prelude.{ℕ, ℤ, List}
use Rattle.blocks.specs.declared.frame.Area.{Area}
use Rattle.blocks.specs.declared.frame.Reference.{Reference}
use Rattle.blocks.specs.declared.window.Part.{Part}
use Rattle.blocks.specs.Window.{LentPlane, Asked, is_planes, window_at, fetched}

-- a plane and a window as functions are handed them. A function that is handed only how many places the plane has speaks of every plane of that many
abbrev pub lent_of : Reference → (plane : List ℕ) → LentPlane
lent_of r plane = record { frame = r.frame; plane_no = r.plane_no; plane = plane; stride = r.stride }

abbrev pub asked : (kind w h : ℕ) (x y : ℤ) (mode : ℕ) → Asked
asked kind w h x y mode = record { kind = kind; w = w; h = h; x = x; y = y; mode = mode }

-- where an area lies, in the plane or in scratch
abbrev pub area_at : Area → (mode planeStride : ℕ) → Part
area_at a mode planeStride = window_at (is_planes mode a) planeStride a

-- and what scratch holds then
abbrev pub area_fetched : Area → (plane : List ℕ) (planeStride mode : ℕ) → List ℕ → List ℕ
area_fetched a plane planeStride mode scratch = fetched (is_planes mode a) plane planeStride a scratch
