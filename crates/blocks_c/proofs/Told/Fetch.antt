-- What the contracts of the C functions that fetch or predict tell their callers, as the toolchain reads them: the premises of blocks' Laws/Fetch/CFunctions, word for word.
-- v has the parameters, z the number, e the parameters at the end. Assumes nothing.
use mathlib.Core.Bool.{Bool, true}
use mathlib.Core.List.{List}
use Prim.Native.Nat.{ℕ}
use lib.IntN.{ℤ}
use denote.Triple.Clauses.{AtExit}
use contract.Lifetimes.{Lfts}
use borrow.Fn.Kinds.{Dens, res_t, ended_of}
use Rattle.rows.specs.Numbers.{up}
use Rattle.blocks.specs.words.Depth.{depth_ok}
use Rattle.blocks.specs.Edge.{EdgeAnswer}
use Rattle.blocks.specs.Window.{WindowAnswer}
use Rattle.blocks.specs.Copy.{PutAnswer, PrepAnswer}
use Rattle.blocks.specs.Subpel.{Put8Answer, Prep8Answer}
use Rattle.blocks.specs.Bilinear.{PutBilinAnswer, PrepBilinAnswer}
use Rattle.blocks_c.proofs.words.window.hv_window_16bpc.Kinds as window-16bpc-kinds
use Rattle.blocks_c.proofs.words.window.hv_window_16bpc.Reads as window-16bpc-reads
use Rattle.blocks_c.proofs.bytes.window.hv_window_8bpc.Kinds as window-8bpc-kinds
use Rattle.blocks_c.proofs.bytes.window.hv_window_8bpc.Reads as window-8bpc-reads
use Rattle.blocks_c.proofs.words.edge.hv_emu_edge_16bpc.Kinds as emu-edge-16bpc-kinds
use Rattle.blocks_c.proofs.words.edge.hv_emu_edge_16bpc.Reads as emu-edge-16bpc-reads
use Rattle.blocks_c.proofs.bytes.edge.hv_emu_edge_8bpc.Kinds as emu-edge-8bpc-kinds
use Rattle.blocks_c.proofs.bytes.edge.hv_emu_edge_8bpc.Reads as emu-edge-8bpc-reads
use Rattle.blocks_c.proofs.words.copy.hv_put_16bpc.Kinds as put-16bpc-kinds
use Rattle.blocks_c.proofs.words.copy.hv_put_16bpc.Reads as put-16bpc-reads
use Rattle.blocks_c.proofs.bytes.copy.hv_put_8bpc.Kinds as put-8bpc-kinds
use Rattle.blocks_c.proofs.bytes.copy.hv_put_8bpc.Reads as put-8bpc-reads
use Rattle.blocks_c.proofs.words.copy.hv_prep_16bpc.Kinds as prep-16bpc-kinds
use Rattle.blocks_c.proofs.words.copy.hv_prep_16bpc.Reads as prep-16bpc-reads
use Rattle.blocks_c.proofs.bytes.copy.hv_prep_8bpc.Kinds as prep-8bpc-kinds
use Rattle.blocks_c.proofs.bytes.copy.hv_prep_8bpc.Reads as prep-8bpc-reads
use Rattle.blocks_c.proofs.words.subpel.hv_put_8tap_16bpc.Kinds as put-8tap-16bpc-kinds
use Rattle.blocks_c.proofs.words.subpel.hv_put_8tap_16bpc.Reads as put-8tap-16bpc-reads
use Rattle.blocks_c.proofs.bytes.subpel.hv_put_8tap_8bpc.Kinds as put-8tap-8bpc-kinds
use Rattle.blocks_c.proofs.bytes.subpel.hv_put_8tap_8bpc.Reads as put-8tap-8bpc-reads
use Rattle.blocks_c.proofs.words.subpel.hv_prep_8tap_16bpc.Kinds as prep-8tap-16bpc-kinds
use Rattle.blocks_c.proofs.words.subpel.hv_prep_8tap_16bpc.Reads as prep-8tap-16bpc-reads
use Rattle.blocks_c.proofs.bytes.subpel.hv_prep_8tap_8bpc.Kinds as prep-8tap-8bpc-kinds
use Rattle.blocks_c.proofs.bytes.subpel.hv_prep_8tap_8bpc.Reads as prep-8tap-8bpc-reads
use Rattle.blocks_c.proofs.words.bilinear.hv_put_bilin_16bpc.Kinds as put-bilin-16bpc-kinds
use Rattle.blocks_c.proofs.words.bilinear.hv_put_bilin_16bpc.Reads as put-bilin-16bpc-reads
use Rattle.blocks_c.proofs.bytes.bilinear.hv_put_bilin_8bpc.Kinds as put-bilin-8bpc-kinds
use Rattle.blocks_c.proofs.bytes.bilinear.hv_put_bilin_8bpc.Reads as put-bilin-8bpc-reads
use Rattle.blocks_c.proofs.words.bilinear.hv_prep_bilin_16bpc.Kinds as prep-bilin-16bpc-kinds
use Rattle.blocks_c.proofs.words.bilinear.hv_prep_bilin_16bpc.Reads as prep-bilin-16bpc-reads
use Rattle.blocks_c.proofs.bytes.bilinear.hv_prep_bilin_8bpc.Kinds as prep-bilin-8bpc-kinds
use Rattle.blocks_c.proofs.bytes.bilinear.hv_prep_bilin_8bpc.Reads as prep-bilin-8bpc-reads

-- what hv_window of either set says of a call
abbrev pub window : (luma_w luma_h : ℕ) (ss_hor ss_ver : Bool) (plane_no : ℕ) (plane : List ℕ) (plane_stride kind w h : ℕ) (x y : ℤ) (mode : ℕ)
    (scratch : List ℕ) (r buffer place apart len : ℕ) (scratch' : List ℕ) → Type 0
window luma_w luma_h ss_hor ss_ver plane_no plane plane_stride kind w h x y mode scratch r buffer place apart len scratch' =
    WindowAnswer
    (record {
      frame = record { luma_w = luma_w; luma_h = luma_h; ss_hor = ss_hor; ss_ver = ss_ver };
      plane_no = plane_no;
      plane = plane;
      stride = plane_stride;
    })
    (record { kind = kind; w = w; h = h; x = x; y = y; mode = mode })
    scratch r buffer place apart len scratch'

-- hv_window_16bpc
pub told_window_16bpc : (κs : Lfts 6) (v : Dens κs window-16bpc-kinds.ps) (z : (res_t window-16bpc-kinds.r κs).Denot)
    (e : AtExit (ended_of 6 window-16bpc-kinds.ps window-16bpc-kinds.r) κs) → window-16bpc-reads.Learnt κs v z e
    → let (luma_w, (luma_h, (ss_hor, (ss_ver, (plane_no, (plane, (plane_stride, (kind, (w, own))))))))) = v in
    let (h, (x, (y, (mode, (scratch, (buffer, (place, (stride, (len, none))))))))) = own in
    let last = e.1.1.1.1.1.1.1.1.1.1.1.1.1 in
    window luma_w luma_h ss_hor ss_ver plane_no plane.now plane_stride kind w h x y mode scratch.now z
    last.1.0.now last.1.1.0.now last.1.1.1.0.now last.1.1.1.1.0.now last.0.now
told_window_16bpc κs v z e told = told

-- hv_window_8bpc
pub told_window_8bpc : (κs : Lfts 6) (v : Dens κs window-8bpc-kinds.ps) (z : (res_t window-8bpc-kinds.r κs).Denot)
    (e : AtExit (ended_of 6 window-8bpc-kinds.ps window-8bpc-kinds.r) κs) → window-8bpc-reads.Learnt κs v z e
    → let (luma_w, (luma_h, (ss_hor, (ss_ver, (plane_no, (plane, (plane_stride, (kind, (w, own))))))))) = v in
    let (h, (x, (y, (mode, (scratch, (buffer, (place, (stride, (len, none))))))))) = own in
    let last = e.1.1.1.1.1.1.1.1.1.1.1.1.1 in
    window luma_w luma_h ss_hor ss_ver plane_no plane.now plane_stride kind w h x y mode scratch.now z
    last.1.0.now last.1.1.0.now last.1.1.1.0.now last.1.1.1.1.0.now last.0.now
told_window_8bpc κs v z e told = told

-- hv_emu_edge_16bpc
pub told_emu_edge_16bpc : (κs : Lfts 2) (v : Dens κs emu-edge-16bpc-kinds.ps) (z : (res_t emu-edge-16bpc-kinds.r κs).Denot)
    (e : AtExit (ended_of 2 emu-edge-16bpc-kinds.ps emu-edge-16bpc-kinds.r) κs) → emu-edge-16bpc-reads.Learnt κs v z e
    → let (bw, (bh, (iw, (ih, (x, (y, (dst, (dst_stride, (plane, own))))))))) = v in
    let (plane_stride, none) = own in
    EdgeAnswer bw bh iw ih x y dst.now dst_stride plane.now plane_stride z e.1.1.1.1.1.1.0.now
told_emu_edge_16bpc κs v z e told = told

-- hv_emu_edge_8bpc
pub told_emu_edge_8bpc : (κs : Lfts 2) (v : Dens κs emu-edge-8bpc-kinds.ps) (z : (res_t emu-edge-8bpc-kinds.r κs).Denot)
    (e : AtExit (ended_of 2 emu-edge-8bpc-kinds.ps emu-edge-8bpc-kinds.r) κs) → emu-edge-8bpc-reads.Learnt κs v z e
    → let (bw, (bh, (iw, (ih, (x, (y, (dst, (dst_stride, (plane, own))))))))) = v in
    let (plane_stride, none) = own in
    EdgeAnswer bw bh iw ih x y dst.now dst_stride plane.now plane_stride z e.1.1.1.1.1.1.0.now
told_emu_edge_8bpc κs v z e told = told

-- hv_put_16bpc
pub told_put_16bpc : (κs : Lfts 2) (v : Dens κs put-16bpc-kinds.ps) (z : (res_t put-16bpc-kinds.r κs).Denot)
    (e : AtExit (ended_of 2 put-16bpc-kinds.ps put-16bpc-kinds.r) κs) → put-16bpc-reads.Learnt κs v z e
    → let (dst, (dst_stride, (src, (src_stride, (w, (h, none)))))) = v in
    PutAnswer dst.now dst_stride src.now src_stride w h z e.0.now
told_put_16bpc κs v z e told = told

-- hv_put_8bpc
pub told_put_8bpc : (κs : Lfts 2) (v : Dens κs put-8bpc-kinds.ps) (z : (res_t put-8bpc-kinds.r κs).Denot)
    (e : AtExit (ended_of 2 put-8bpc-kinds.ps put-8bpc-kinds.r) κs) → put-8bpc-reads.Learnt κs v z e
    → let (dst, (dst_stride, (src, (src_stride, (w, (h, none)))))) = v in
    PutAnswer dst.now dst_stride src.now src_stride w h z e.0.now
told_put_8bpc κs v z e told = told

-- hv_prep_16bpc
pub told_prep_16bpc : (κs : Lfts 2) (v : Dens κs prep-16bpc-kinds.ps) (z : (res_t prep-16bpc-kinds.r κs).Denot)
    (e : AtExit (ended_of 2 prep-16bpc-kinds.ps prep-16bpc-kinds.r) κs) → prep-16bpc-reads.Learnt κs v z e
    → let (depth, (tmp, (tmp_stride, (src, (src_stride, (w, (h, none))))))) = v in
    PrepAnswer (depth_ok depth) (up depth) tmp.now tmp_stride src.now src_stride w h z e.1.0.now
told_prep_16bpc κs v z e told = told

-- hv_prep_8bpc
pub told_prep_8bpc : (κs : Lfts 2) (v : Dens κs prep-8bpc-kinds.ps) (z : (res_t prep-8bpc-kinds.r κs).Denot)
    (e : AtExit (ended_of 2 prep-8bpc-kinds.ps prep-8bpc-kinds.r) κs) → prep-8bpc-reads.Learnt κs v z e
    → let (tmp, (tmp_stride, (src, (src_stride, (w, (h, none)))))) = v in
    PrepAnswer true 8 tmp.now tmp_stride src.now src_stride w h z e.0.now
told_prep_8bpc κs v z e told = told

-- hv_put_8tap_16bpc
pub told_put_8tap_16bpc : (κs : Lfts 4) (v : Dens κs put-8tap-16bpc-kinds.ps) (z : (res_t put-8tap-16bpc-kinds.r κs).Denot)
    (e : AtExit (ended_of 4 put-8tap-16bpc-kinds.ps put-8tap-16bpc-kinds.r) κs) → put-8tap-16bpc-reads.Learnt κs v z e
    → let (depth, (dst, (dst_stride, (src, (src_off, (src_stride, (w, (h, (mx, own))))))))) = v in
    let (my, (filter_type, (subpel, (ext, none)))) = own in
    Put8Answer (depth_ok depth) (up depth) dst.now dst_stride src.now src_off src_stride w h mx my filter_type
    subpel.now ext.now z e.1.0.now
told_put_8tap_16bpc κs v z e told = told

-- hv_put_8tap_8bpc
pub told_put_8tap_8bpc : (κs : Lfts 4) (v : Dens κs put-8tap-8bpc-kinds.ps) (z : (res_t put-8tap-8bpc-kinds.r κs).Denot)
    (e : AtExit (ended_of 4 put-8tap-8bpc-kinds.ps put-8tap-8bpc-kinds.r) κs) → put-8tap-8bpc-reads.Learnt κs v z e
    → let (dst, (dst_stride, (src, (src_off, (src_stride, (w, (h, (mx, (my, own))))))))) = v in
    let (filter_type, (subpel, (ext, none))) = own in
    Put8Answer true 8 dst.now dst_stride src.now src_off src_stride w h mx my filter_type
    subpel.now ext.now z e.0.now
told_put_8tap_8bpc κs v z e told = told

-- hv_prep_8tap_16bpc
pub told_prep_8tap_16bpc : (κs : Lfts 4) (v : Dens κs prep-8tap-16bpc-kinds.ps) (z : (res_t prep-8tap-16bpc-kinds.r κs).Denot)
    (e : AtExit (ended_of 4 prep-8tap-16bpc-kinds.ps prep-8tap-16bpc-kinds.r) κs) → prep-8tap-16bpc-reads.Learnt κs v z e
    → let (depth, (tmp, (tmp_stride, (src, (src_off, (src_stride, (w, (h, (mx, own))))))))) = v in
    let (my, (filter_type, (subpel, (ext, none)))) = own in
    Prep8Answer (depth_ok depth) (up depth) tmp.now tmp_stride src.now src_off src_stride w h mx my filter_type
    subpel.now ext.now z e.1.0.now
told_prep_8tap_16bpc κs v z e told = told

-- hv_prep_8tap_8bpc
pub told_prep_8tap_8bpc : (κs : Lfts 4) (v : Dens κs prep-8tap-8bpc-kinds.ps) (z : (res_t prep-8tap-8bpc-kinds.r κs).Denot)
    (e : AtExit (ended_of 4 prep-8tap-8bpc-kinds.ps prep-8tap-8bpc-kinds.r) κs) → prep-8tap-8bpc-reads.Learnt κs v z e
    → let (tmp, (tmp_stride, (src, (src_off, (src_stride, (w, (h, (mx, (my, own))))))))) = v in
    let (filter_type, (subpel, (ext, none))) = own in
    Prep8Answer true 8 tmp.now tmp_stride src.now src_off src_stride w h mx my filter_type
    subpel.now ext.now z e.0.now
told_prep_8tap_8bpc κs v z e told = told

-- hv_put_bilin_16bpc
pub told_put-bilin_16bpc : (κs : Lfts 2) (v : Dens κs put-bilin-16bpc-kinds.ps) (z : (res_t put-bilin-16bpc-kinds.r κs).Denot)
    (e : AtExit (ended_of 2 put-bilin-16bpc-kinds.ps put-bilin-16bpc-kinds.r) κs) → put-bilin-16bpc-reads.Learnt κs v z e
    → let (depth, (dst, (dst_stride, (src, (src_stride, (w, (h, (mx, (my, none))))))))) = v in
    PutBilinAnswer (depth_ok depth) (up depth) dst.now dst_stride src.now src_stride w h mx my z e.1.0.now
told_put-bilin_16bpc κs v z e told = told

-- hv_put_bilin_8bpc
pub told_put-bilin_8bpc : (κs : Lfts 2) (v : Dens κs put-bilin-8bpc-kinds.ps) (z : (res_t put-bilin-8bpc-kinds.r κs).Denot)
    (e : AtExit (ended_of 2 put-bilin-8bpc-kinds.ps put-bilin-8bpc-kinds.r) κs) → put-bilin-8bpc-reads.Learnt κs v z e
    → let (dst, (dst_stride, (src, (src_stride, (w, (h, (mx, (my, none)))))))) = v in
    PutBilinAnswer true 8 dst.now dst_stride src.now src_stride w h mx my z e.0.now
told_put-bilin_8bpc κs v z e told = told

-- hv_prep_bilin_16bpc
pub told_prep-bilin_16bpc : (κs : Lfts 2) (v : Dens κs prep-bilin-16bpc-kinds.ps) (z : (res_t prep-bilin-16bpc-kinds.r κs).Denot)
    (e : AtExit (ended_of 2 prep-bilin-16bpc-kinds.ps prep-bilin-16bpc-kinds.r) κs) → prep-bilin-16bpc-reads.Learnt κs v z e
    → let (depth, (tmp, (tmp_stride, (src, (src_stride, (w, (h, (mx, (my, none))))))))) = v in
    PrepBilinAnswer (depth_ok depth) (up depth) tmp.now tmp_stride src.now src_stride w h mx my z e.1.0.now
told_prep-bilin_16bpc κs v z e told = told

-- hv_prep_bilin_8bpc
pub told_prep-bilin_8bpc : (κs : Lfts 2) (v : Dens κs prep-bilin-8bpc-kinds.ps) (z : (res_t prep-bilin-8bpc-kinds.r κs).Denot)
    (e : AtExit (ended_of 2 prep-bilin-8bpc-kinds.ps prep-bilin-8bpc-kinds.r) κs) → prep-bilin-8bpc-reads.Learnt κs v z e
    → let (tmp, (tmp_stride, (src, (src_stride, (w, (h, (mx, (my, none)))))))) = v in
    PrepBilinAnswer true 8 tmp.now tmp_stride src.now src_stride w h mx my z e.0.now
told_prep-bilin_8bpc κs v z e told = told
