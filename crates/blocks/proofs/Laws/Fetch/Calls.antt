-- Fetch by one call, predict by another: what such a pair of calls says, and that it leaves the block on the endless plane. Assumes nothing.
use mathlib.Core.Path.{◌≡◌}
use mathlib.Core.Logic.{◌⊎◌, ⊎_elim}
use mathlib.Core.List.{List}
use Prim.Native.Nat.{ℕ}
use lib.IntN.{ℤ}
use Rattle.blocks.specs.Edge.{EdgeAnswer}
use Rattle.blocks.specs.Window.{LentPlane, lent_w, lent_h, window_side, window_start, WindowAnswer}
use Rattle.blocks.specs.Order.{kind_number, plane_of}
use Rattle.blocks.specs.declared.order.Kind.{Kind}
use Rattle.blocks.proofs.Laws.Window.Holds.{Picked}
use Rattle.blocks.proofs.Laws.Window.Predict.{asked_in, block_at, named_part, window_picked}
use Rattle.blocks.proofs.Laws.Edge.Predict.{edge_picked}
use Rattle.blocks.proofs.Laws.Cut.Runs.{Leaves}

-- ---- the fetch

-- what a function that fetches says of a call that answers 0, for a block of w x h at x and y: scratch, then the part to hand on, how far its rows stand
-- apart, and scratch at the end
abbrev pub FetchSays : Type 1
FetchSays = (x y : ℤ) (w h : ℕ) (scratch part : List ℕ) (apart : ℕ) (scratch' : List ℕ) → Type 0

-- the window's call, in any mode that it accepts, and the part that it names
abbrev pub window_says : LentPlane → (kind : ℕ) → FetchSays
window_says p kind x y w h scratch part apart scratch' =
    (mode : ℕ) × (buffer : ℕ) × (place : ℕ) × (len : ℕ)
    × WindowAnswer p (record { kind = kind; w = w; h = h; x = x; y = y; mode = mode }) scratch 0 buffer place apart len scratch'
    × (part ≡ named_part buffer place apart len p.plane scratch')

-- emu_edge's call for the window, into scratch at any stride that it accepts, with the plane's sides as iw and ih. (A plane of iw x ih that has no frame is
-- luma's of a frame of these sides.)
abbrev pub edge_says : LentPlane → (kind : ℕ) → FetchSays
edge_says p kind x y w h scratch part apart scratch' =
    EdgeAnswer (window_side kind w) (window_side kind h) (lent_w p) (lent_h p) (window_start kind x) (window_start kind y)
    scratch apart p.plane p.stride 0 scratch'
    × (part ≡ scratch')

-- either: each rectangle may be fetched in its own way
abbrev pub fetch_says : LentPlane → (kind : ℕ) → FetchSays
fetch_says p kind x y w h scratch part apart scratch' =
    window_says p kind x y w h scratch part apart scratch' ⊎ edge_says p kind x y w h scratch part apart scratch'

-- what is handed on shows the endless plane around the block
abbrev pub Shown : LentPlane → Kind → (x y : ℤ) (w h : ℕ) (part : List ℕ) (apart : ℕ) → Type 0
Shown p kind x y w h part apart = Picked (asked_in 0 (block_at x y w h kind)) (plane_of p) part apart

pub fetch_shown : (p : LentPlane) (kind : Kind) (x y : ℤ) (w h : ℕ) (scratch part : List ℕ) (apart : ℕ) (scratch' : List ℕ)
    → fetch_says p (kind_number kind) x y w h scratch part apart scratch' → Shown p kind x y w h part apart
fetch_shown p kind x y w h scratch part apart scratch' a =
    ⊎_elim
    (λ b.
    let shown = window_picked p (asked_in b.0 (block_at x y w h kind)) scratch b.4 in
    rw b.5 (record { rows = shown.rows; same = shown.same }))
    (λ b. rw b.1 (edge_picked (asked_in 0 (block_at x y w h kind)) (lent_w p) (lent_h p) scratch apart p.plane p.stride b.0)) a

-- ---- the kernel

-- what a kernel says of a call on a source at the block's first pixel in its window: the source, how far its rows stand apart, the block's sides, the buffer
-- that is written and its stride, then the number and the buffer at the end
abbrev pub KernelSays : Type 0 → Type 1
KernelSays A = (src : List ℕ) (apart w h : ℕ) (d : List A) (stride r : ℕ) (d' : List A) → Type 0

module _ {A : Type 0} where
  -- a kernel whose call, where it answers 0 on a source that shows the endless plane, leaves the picture
  abbrev pub KernelTells : KernelSays A → LentPlane → Kind → ((x y : ℤ) (w h i j : ℕ) → A) → Type 0
  KernelTells kernel p kind picture =
      (x y : ℤ) (w h : ℕ) (src : List ℕ) (apart : ℕ) (d : List A) (stride : ℕ) (d' : List A) → Shown p kind x y w h src apart
      → kernel src apart w h d stride 0 d' → Leaves w h stride (picture x y w h) d d'

  -- ---- the fetch's call, then the kernel's on what was fetched, neither plane nor scratch changing between them
  abbrev pub fetch_then : LentPlane → (kind : ℕ) → KernelSays A
      → (x y : ℤ) (w h : ℕ) (scratch : List ℕ) (d : List A) (stride r : ℕ) (scratch' : List ℕ) (d' : List A) → Type 0
  fetch_then p kind kernel x y w h scratch d stride r scratch' d' =
      (part : List ℕ) × (apart : ℕ) × fetch_says p kind x y w h scratch part apart scratch' × kernel part apart w h d stride r d'

  pub then_tells : (p : LentPlane) (kind : Kind) (kernel : KernelSays A) (picture : (x y : ℤ) (w h i j : ℕ) → A) → KernelTells kernel p kind picture
      → (x y : ℤ) (w h : ℕ) (scratch : List ℕ) (d : List A) (stride : ℕ) (scratch' : List ℕ) (d' : List A)
      → fetch_then p (kind_number kind) kernel x y w h scratch d stride 0 scratch' d' → Leaves w h stride (picture x y w h) d d'
  then_tells p kind kernel picture tells x y w h scratch d stride scratch' d' a =
      tells x y w h a.0 a.1 d stride d' (fetch_shown p kind x y w h scratch a.0 a.1 scratch' a.2) a.3
