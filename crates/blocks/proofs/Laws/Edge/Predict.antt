-- `emu_edge`, then a kernel, by separate calls: where emu_edge filled a block's window, with its kind's margins, and answered 0, a kernel that is handed
-- that buffer at the block's first pixel gives the block on the endless plane. Assumes nothing.
use Rattle.blocks.proofs.Usual.{Bool, List, ◌≡◌, ◌∙◌, refl, sym, ap, ℕ, ◌*◌, ◌+◌, arith, ℤ, length, get_or, fill, around, Asked, Tables}
use Rattle.blocks.proofs.Usual.{length-fill, row_fits, fill_in_lem, done}
use Rattle.rows.specs.Edge.{endless, edge, around_at}
use Rattle.blocks.specs.Edge.{EdgeAnswer}
use Rattle.blocks.specs.Copy.{PutAnswer, PrepAnswer}
use Rattle.blocks.specs.Subpel.{Put8Answer, Prep8Answer}
use Rattle.blocks.specs.Bilinear.{PutBilinAnswer, PrepBilinAnswer}
use Rattle.blocks.specs.Warp.{WarpAnswer, WarpTAnswer}
use Rattle.blocks.specs.Window.{window_side, window_start}
use Rattle.blocks.specs.Order.{put_picture, prep_picture}
use Rattle.blocks.proofs.Laws.Edge.Ready.{edge_ready}
use Rattle.blocks.proofs.Laws.Window.Holds.{Picked}
use Rattle.blocks.proofs.Laws.Window.Predict.{asked_in, block_at, put8-on, prep8-on, put_bilin-on, prep_bilin-on, put_on_lem, prep-on, warp-on, warp_t_on}
use Rattle.blocks.specs.declared.subpel.plan.SubpelMotion.{SubpelMotion}
use Rattle.blocks.specs.declared.order.BilinMotion.{BilinMotion}
use Rattle.blocks.specs.declared.warp.Shears.{Shears}
use Rattle.blocks.specs.declared.order.Kind.TheVariants.{Copy, Subpel, Bilinear, Warp}

-- emu_edge, accepted, for the window of the block q on a plane of iw x ih, into buf at the stride bs: part is buf at the end
abbrev pub EdgeWindow : (q : Asked) (iw ih : ℕ) (buf : List ℕ) (bs : ℕ) (plane : List ℕ) (ps : ℕ) (part : List ℕ) → Type 0
EdgeWindow q iw ih buf bs plane ps part =
    EdgeAnswer (window_side q.kind q.w) (window_side q.kind q.h) iw ih (window_start q.kind q.x) (window_start q.kind q.y)
    buf bs plane ps 0 part

-- it shows the endless plane, as a window's part does
module _ (q : Asked) (iw ih : ℕ) (dst : List ℕ) (ds : ℕ) (plane : List ℕ) (ps : ℕ) where
  abbrev ww : ℕ
  ww = window_side q.kind q.w

  abbrev wh : ℕ
  wh = window_side q.kind q.h

  abbrev seen : ℕ → ℕ → ℕ
  seen = edge plane ps iw ih (window_start q.kind q.x) (window_start q.kind q.y)

  pub edge_picked : {dst' : List ℕ} → EdgeWindow q iw ih dst ds plane ps dst'
      → Picked q (endless plane ps iw ih) dst' ds
  unfolding around around_at edge
  edge_picked {dst'} a =
      let ok = edge_ready (sym a.0) in
      let is : dst' ≡ fill dst ds ww wh seen = a.1 ∙ done 0 _ dst refl in
      let n : length dst' ≡ length dst = ap length is ∙ length-fill dst ds ww wh seen in
      record {
        rows = rw n ok.dst;
        same = λ i j c d wi hj kc kd.
            let r = row_fits (length dst) ds ww wh (j + d) ok.dst.fits (omega arith) in
            ap (λ (k : ℕ). get_or dst' k 0) (omega arith) ∙ ap (λ (l : List ℕ). get_or l ((j + d) * ds + (i + c)) 0) is
            ∙ fill_in_lem 0 ds dst ww wh seen (i + c) (j + d) (omega (arith, ok.dst)) (omega arith) (omega arith) (omega (arith, r));
      }

-- ---- emu_edge's call, then the kernel's: the block on the endless plane
module _ (iw ih : ℕ) (plane : List ℕ) (ps : ℕ) (buf : List ℕ) (bs depth : ℕ) (t : Tables) (x y : ℤ) (w h ds : ℕ) {part : List ℕ} where
  pub edge-put : EdgeWindow (asked_in 0 (block_at x y w h Copy)) iw ih buf bs plane ps part → (dst : List ℕ) {dst' : List ℕ}
      → PutAnswer dst ds part bs w h 0 dst'
      → dst' ≡ fill dst ds w h (put_picture depth t (block_at x y w h Copy) (endless plane ps iw ih))
  edge-put f dst a = put_on_lem depth t x y w h ds (edge_picked (asked_in 0 (block_at x y w h Copy)) iw ih buf bs plane ps f) dst a

  pub edge-prep : (deep : Bool) → EdgeWindow (asked_in 0 (block_at x y w h Copy)) iw ih buf bs plane ps part → (tmp : List ℤ) {tmp' : List ℤ}
      → PrepAnswer deep depth tmp ds part bs w h 0 tmp'
      → tmp' ≡ fill tmp ds w h (prep_picture depth t (block_at x y w h Copy) (endless plane ps iw ih))
  edge-prep deep f tmp a = prep-on depth t x y w h ds (edge_picked (asked_in 0 (block_at x y w h Copy)) iw ih buf bs plane ps f) deep tmp a

  pub edge-put8 : (m : SubpelMotion) (deep : Bool) → EdgeWindow (asked_in 0 (block_at x y w h (Subpel m))) iw ih buf bs plane ps part
      → (dst : List ℕ) {dst' : List ℕ}
      → Put8Answer deep depth dst ds part (3 * bs + 3) bs w h m.mx m.my m.filter_type t.subpel t.ext 0 dst'
      → dst' ≡ fill dst ds w h (put_picture depth t (block_at x y w h (Subpel m)) (endless plane ps iw ih))
  edge-put8 m deep f dst a = put8-on depth t x y w h ds m (edge_picked (asked_in 0 (block_at x y w h (Subpel m))) iw ih buf bs plane ps f) deep dst a

  pub edge-prep8 : (m : SubpelMotion) (deep : Bool) → EdgeWindow (asked_in 0 (block_at x y w h (Subpel m))) iw ih buf bs plane ps part
      → (tmp : List ℤ) {tmp' : List ℤ}
      → Prep8Answer deep depth tmp ds part (3 * bs + 3) bs w h m.mx m.my m.filter_type t.subpel t.ext 0 tmp'
      → tmp' ≡ fill tmp ds w h (prep_picture depth t (block_at x y w h (Subpel m)) (endless plane ps iw ih))
  edge-prep8 m deep f tmp a = prep8-on depth t x y w h ds m (edge_picked (asked_in 0 (block_at x y w h (Subpel m))) iw ih buf bs plane ps f) deep tmp a

  pub edge-put_bilin : (m : BilinMotion) (deep : Bool) → EdgeWindow (asked_in 0 (block_at x y w h (Bilinear m))) iw ih buf bs plane ps part
      → (dst : List ℕ) {dst' : List ℕ}
      → PutBilinAnswer deep depth dst ds part bs w h m.mx m.my 0 dst'
      → dst' ≡ fill dst ds w h (put_picture depth t (block_at x y w h (Bilinear m)) (endless plane ps iw ih))
  edge-put_bilin m deep f dst a = put_bilin-on depth t x y w h ds m (edge_picked (asked_in 0 (block_at x y w h (Bilinear m))) iw ih buf bs plane ps f) deep dst a

  pub edge-prep_bilin : (m : BilinMotion) (deep : Bool) → EdgeWindow (asked_in 0 (block_at x y w h (Bilinear m))) iw ih buf bs plane ps part
      → (tmp : List ℤ) {tmp' : List ℤ}
      → PrepBilinAnswer deep depth tmp ds part bs w h m.mx m.my 0 tmp'
      → tmp' ≡ fill tmp ds w h (prep_picture depth t (block_at x y w h (Bilinear m)) (endless plane ps iw ih))
  edge-prep_bilin m deep f tmp a = prep_bilin-on depth t x y w h ds m (edge_picked (asked_in 0 (block_at x y w h (Bilinear m))) iw ih buf bs plane ps f) deep tmp a

module _ (iw ih : ℕ) (plane : List ℕ) (ps : ℕ) (buf : List ℕ) (bs depth : ℕ) (t : Tables) (x y : ℤ) (ds : ℕ) {part : List ℕ} (m : Shears) (deep : Bool) where
  pub edge-warp : EdgeWindow (asked_in 0 (block_at x y 8 8 (Warp m))) iw ih buf bs plane ps part → (dst : List ℕ) {dst' : List ℕ}
      → WarpAnswer deep depth dst ds part bs (3 * bs + 3) m.a m.b m.c m.d m.mx m.my t.warp 0 dst'
      → dst' ≡ fill dst ds 8 8 (put_picture depth t (block_at x y 8 8 (Warp m)) (endless plane ps iw ih))
  edge-warp f dst a = warp-on depth t x y ds m (edge_picked (asked_in 0 (block_at x y 8 8 (Warp m))) iw ih buf bs plane ps f) deep dst a

  pub edge_warp_t : EdgeWindow (asked_in 0 (block_at x y 8 8 (Warp m))) iw ih buf bs plane ps part → (tmp : List ℤ) {tmp' : List ℤ}
      → WarpTAnswer deep depth tmp ds part bs (3 * bs + 3) m.a m.b m.c m.d m.mx m.my t.warp 0 tmp'
      → tmp' ≡ fill tmp ds 8 8 (prep_picture depth t (block_at x y 8 8 (Warp m)) (endless plane ps iw ih))
  edge_warp_t f tmp a = warp_t_on depth t x y ds m (edge_picked (asked_in 0 (block_at x y 8 8 (Warp m))) iw ih buf bs plane ps f) deep tmp a
