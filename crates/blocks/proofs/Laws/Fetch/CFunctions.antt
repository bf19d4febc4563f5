-- Demand 3 of callers who fetch by one call and predict by another: as one law of any kernel, then of each C function that copies or filters by 8-tap or
-- bilinear, called on what hv_window or hv_emu_edge of its set fetched. The premises are the functions' contracts (Told/Fetch of blocks_c has them word for
-- word) of each call, each answering 0. Assumes nothing.
use mathlib.Core.Path.{◌≡◌, refl}
use mathlib.Core.Bool.{true}
use mathlib.Core.List.{List}
use Prim.Native.Nat.{ℕ, ◌≤◌}
use lib.IntN.{ℤ}
use Rattle.rows.specs.Numbers.{up}
use Rattle.rows.specs.Cut.{Rect, Each, Cut, SameSide}
use Rattle.blocks.specs.words.Depth.{depth_ok}
use Rattle.blocks.specs.Window.{LentPlane}
use Rattle.blocks.specs.Order.{kind_number, Tables, Setting}
use Rattle.blocks.specs.Cut.{unwarped}
use Rattle.blocks.specs.declared.subpel.plan.SubpelMotion.{SubpelMotion}
use Rattle.blocks.specs.declared.order.BilinMotion.{BilinMotion}
use Rattle.blocks.specs.declared.order.Kind.{Kind}
use Rattle.blocks.specs.declared.order.Kind.TheVariants.{Copy, Subpel, Bilinear}
use Rattle.blocks.proofs.Laws.Window.Predict.{block_at}
use Rattle.blocks.proofs.Laws.Cut.Places.{Predicted, PutCalls, calls_predicted, PrepCall, AllPrepped, all_prepped}
use Rattle.blocks.proofs.Laws.Fetch.Calls.{KernelSays, KernelTells, fetch_then, then_tells}
use Rattle.blocks.proofs.Laws.Fetch.Kernels.{put_kernel, prep_kernel, put8_kernel, prep8_kernel, put_bilin_kernel, prep_bilin_kernel, block_put, block_prep}
use Rattle.blocks.proofs.Laws.Fetch.Kernels.{put_tells, prep_tells, put8_tells, prep8_tells, put-bilin_tells, prep-bilin_tells}

-- the rectangles of a block's cut, each fetched by a window's call in any mode or by emu_edge's and then predicted by the kernel's into the one dst, each
-- call answering 0, in any order: dst has the block on the endless plane, and no pixel outside it changed
abbrev pub PutLaw : Setting → Kind → KernelSays ℕ → Type 0
PutLaw s kind kernel =
    (x y : ℤ) (w h : ℕ) (rs : List Rect) → Cut w h rs → Each (SameSide w h) rs → (stride : ℕ) (dst dst' : List ℕ) → w ≤ stride
    → PutCalls (fetch_then s.lent (kind_number kind) kernel) x y stride rs dst dst' → Predicted w h stride (block_put s kind x y w h) dst dst'

-- each into a tmp of its own without gaps: each pixel of the block on the endless plane is in the tmp of a rectangle that has it, and no place of a tmp
-- outside its rectangle changed
abbrev pub PrepLaw : Setting → Kind → KernelSays ℤ → Type 0
PrepLaw s kind kernel =
    (x y : ℤ) (w h : ℕ) (rs : List Rect) → Cut w h rs → Each (SameSide w h) rs
    → (calls : Each (PrepCall (fetch_then s.lent (kind_number kind) kernel) x y) rs)
    → AllPrepped (fetch_then s.lent (kind_number kind) kernel) x y (block_prep s kind x y w h) w h rs calls

-- ---- any kernel whose call leaves the picture
module _ (s : Setting) (kind : Kind) (unwarp : unwarped kind ≡ true) where
  pub fetch_cut_put : (kernel : KernelSays ℕ) → KernelTells kernel s.lent kind (block_put s kind) → PutLaw s kind kernel
  fetch_cut_put kernel tells x y w h rs cut sides stride dst dst' carries calls =
      calls_predicted s (block_at x y w h kind) stride (fetch_then s.lent (kind_number kind) kernel)
      (then_tells s.lent kind kernel (block_put s kind) tells) rs dst dst' (record { kind = unwarp; cut = cut; sides = sides }) carries calls

  pub fetch_cut_prep : (kernel : KernelSays ℤ) → KernelTells kernel s.lent kind (block_prep s kind) → PrepLaw s kind kernel
  fetch_cut_prep kernel tells x y w h rs cut sides calls =
      all_prepped s (block_at x y w h kind) (fetch_then s.lent (kind_number kind) kernel)
      (then_tells s.lent kind kernel (block_prep s kind) tells) rs (record { kind = unwarp; cut = cut; sides = sides }) calls

-- ---- the sets: what stays from call to call, of a depth in 16 bits, and of bytes
abbrev pub words : LentPlane → Tables → (depth : ℤ) → Setting
words p t depth = record { deep = depth_ok depth; depth = up depth; lent = p; tables = t }

abbrev pub bytes : LentPlane → Tables → Setting
bytes p t = record { deep = true; depth = 8; lent = p; tables = t }

module _ (p : LentPlane) (t : Tables) (depth : ℤ) where
  -- hv_put_16bpc
  pub fetch_cut_put_16bpc : PutLaw (words p t depth) Copy put_kernel
  unfolding unwarped
  fetch_cut_put_16bpc = fetch_cut_put (words p t depth) Copy refl put_kernel (put_tells (words p t depth))

  -- hv_prep_16bpc
  pub fetch_cut_prep_16bpc : PrepLaw (words p t depth) Copy (prep_kernel (words p t depth))
  unfolding unwarped
  fetch_cut_prep_16bpc = fetch_cut_prep (words p t depth) Copy refl (prep_kernel (words p t depth)) (prep_tells (words p t depth))

  -- hv_put_8tap_16bpc
  pub fetch_cut_put_8tap_16bpc : (m : SubpelMotion) → PutLaw (words p t depth) (Subpel m) (put8_kernel (words p t depth) m)
  unfolding unwarped
  fetch_cut_put_8tap_16bpc m = fetch_cut_put (words p t depth) (Subpel m) refl (put8_kernel (words p t depth) m) (put8_tells (words p t depth) m)

  -- hv_prep_8tap_16bpc
  pub fetch_cut_prep_8tap_16bpc : (m : SubpelMotion) → PrepLaw (words p t depth) (Subpel m) (prep8_kernel (words p t depth) m)
  unfolding unwarped
  fetch_cut_prep_8tap_16bpc m = fetch_cut_prep (words p t depth) (Subpel m) refl (prep8_kernel (words p t depth) m) (prep8_tells (words p t depth) m)

  -- hv_put_bilin_16bpc
  pub fetch_cut_put-bilin_16bpc : (m : BilinMotion) → PutLaw (words p t depth) (Bilinear m) (put_bilin_kernel (words p t depth) m)
  unfolding unwarped
  fetch_cut_put-bilin_16bpc m = fetch_cut_put (words p t depth) (Bilinear m) refl (put_bilin_kernel (words p t depth) m) (put-bilin_tells (words p t depth) m)

  -- hv_prep_bilin_16bpc
  pub fetch_cut_prep-bilin_16bpc : (m : BilinMotion) → PrepLaw (words p t depth) (Bilinear m) (prep_bilin_kernel (words p t depth) m)
  unfolding unwarped
  fetch_cut_prep-bilin_16bpc m = fetch_cut_prep (words p t depth) (Bilinear m) refl (prep_bilin_kernel (words p t depth) m) (prep-bilin_tells (words p t depth) m)

module _ (p : LentPlane) (t : Tables) where
  -- hv_put_8bpc
  pub fetch_cut_put_8bpc : PutLaw (bytes p t) Copy put_kernel
  unfolding unwarped
  fetch_cut_put_8bpc = fetch_cut_put (bytes p t) Copy refl put_kernel (put_tells (bytes p t))

  -- hv_prep_8bpc
  pub fetch_cut_prep_8bpc : PrepLaw (bytes p t) Copy (prep_kernel (bytes p t))
  unfolding unwarped
  fetch_cut_prep_8bpc = fetch_cut_prep (bytes p t) Copy refl (prep_kernel (bytes p t)) (prep_tells (bytes p t))

  -- hv_put_8tap_8bpc
  pub fetch_cut_put_8tap_8bpc : (m : SubpelMotion) → PutLaw (bytes p t) (Subpel m) (put8_kernel (bytes p t) m)
  unfolding unwarped
  fetch_cut_put_8tap_8bpc m = fetch_cut_put (bytes p t) (Subpel m) refl (put8_kernel (bytes p t) m) (put8_tells (bytes p t) m)

  -- hv_prep_8tap_8bpc
  pub fetch_cut_prep_8tap_8bpc : (m : SubpelMotion) → PrepLaw (bytes p t) (Subpel m) (prep8_kernel (bytes p t) m)
  unfolding unwarped
  fetch_cut_prep_8tap_8bpc m = fetch_cut_prep (bytes p t) (Subpel m) refl (prep8_kernel (bytes p t) m) (prep8_tells (bytes p t) m)

  -- hv_put_bilin_8bpc
  pub fetch_cut_put-bilin_8bpc : (m : BilinMotion) → PutLaw (bytes p t) (Bilinear m) (put_bilin_kernel (bytes p t) m)
  unfolding unwarped
  fetch_cut_put-bilin_8bpc m = fetch_cut_put (bytes p t) (Bilinear m) refl (put_bilin_kernel (bytes p t) m) (put-bilin_tells (bytes p t) m)

  -- hv_prep_bilin_8bpc
  pub fetch_cut_prep-bilin_8bpc : (m : BilinMotion) → PrepLaw (bytes p t) (Bilinear m) (prep_bilin_kernel (bytes p t) m)
  unfolding unwarped
  fetch_cut_prep-bilin_8bpc m = fetch_cut_prep (bytes p t) (Bilinear m) refl (prep_bilin_kernel (bytes p t) m) (prep-bilin_tells (bytes p t) m)
