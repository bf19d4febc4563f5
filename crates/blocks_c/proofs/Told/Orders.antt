-- What the contracts of the C functions that run orders tell their callers, as the toolchain reads them: the premises of demand 3 (blocks' Laws/Cut/CFunctions),
-- word for word. v has the parameters, z the number, e the parameters at the end. Assumes nothing.
use denote.Triple.Clauses.{AtExit}
use contract.Lifetimes.{Lfts}
use borrow.Fn.Kinds.{Dens, res_t, ended_of}
use Rattle.blocks.proofs.Laws.Cut.CFunctions.{put16, prep16, put8, prep8}
use Rattle.blocks_c.proofs.words.order.hv_order_put_16bpc.Kinds as put-16bpc-kinds
use Rattle.blocks_c.proofs.words.order.hv_order_put_16bpc.Reads as put-16bpc-reads
use Rattle.blocks_c.proofs.words.order.hv_order_prep_16bpc.Kinds as prep-16bpc-kinds
use Rattle.blocks_c.proofs.words.order.hv_order_prep_16bpc.Reads as prep-16bpc-reads
use Rattle.blocks_c.proofs.bytes.order.hv_order_put_8bpc.Kinds as put-8bpc-kinds
use Rattle.blocks_c.proofs.bytes.order.hv_order_put_8bpc.Reads as put-8bpc-reads
use Rattle.blocks_c.proofs.bytes.order.hv_order_prep_8bpc.Kinds as prep-8bpc-kinds
use Rattle.blocks_c.proofs.bytes.order.hv_order_prep_8bpc.Reads as prep-8bpc-reads

-- hv_order_put_16bpc
pub told_put_16bpc : (κs : Lfts 6) (v : Dens κs put-16bpc-kinds.ps) (z : (res_t put-16bpc-kinds.r κs).Denot)
    (e : AtExit (ended_of 6 put-16bpc-kinds.ps put-16bpc-kinds.r) κs) → put-16bpc-reads.Learnt κs v z e
    → let (depth, (luma_w, (luma_h, (ss_hor, (ss_ver, (plane_no, (plane, (plane_stride, (kind, own))))))))) = v in
    let (x, (y, (w, (h, (mx, (my, (filter_type, (a, (b, (c, (d, (subpel, (ext, (warp, (scratch, (dst, (stride, none))))))))))))))))) = own in
    let last = e.1.1.1.1.1.1.1.1.1.1.1.1.1.1.1.1.1.1.1.1.1.1.1 in
    put16 depth luma_w luma_h ss_hor ss_ver plane_no plane.now plane_stride kind mx my filter_type a b c d subpel.now ext.now warp.now
    x y w h scratch.now dst.now stride z last.0.now last.1.0.now
told_put_16bpc κs v z e told = told

-- hv_order_prep_16bpc
pub told_prep_16bpc : (κs : Lfts 6) (v : Dens κs prep-16bpc-kinds.ps) (z : (res_t prep-16bpc-kinds.r κs).Denot)
    (e : AtExit (ended_of 6 prep-16bpc-kinds.ps prep-16bpc-kinds.r) κs) → prep-16bpc-reads.Learnt κs v z e
    → let (depth, (luma_w, (luma_h, (ss_hor, (ss_ver, (plane_no, (plane, (plane_stride, (kind, own))))))))) = v in
    let (x, (y, (w, (h, (mx, (my, (filter_type, (a, (b, (c, (d, (subpel, (ext, (warp, (scratch, (tmp, (stride, none))))))))))))))))) = own in
    let last = e.1.1.1.1.1.1.1.1.1.1.1.1.1.1.1.1.1.1.1.1.1.1.1 in
    prep16 depth luma_w luma_h ss_hor ss_ver plane_no plane.now plane_stride kind mx my filter_type a b c d subpel.now ext.now warp.now
    x y w h scratch.now tmp.now stride z last.0.now last.1.0.now
told_prep_16bpc κs v z e told = told

-- hv_order_put_8bpc
pub told_put_8bpc : (κs : Lfts 6) (v : Dens κs put-8bpc-kinds.ps) (z : (res_t put-8bpc-kinds.r κs).Denot)
    (e : AtExit (ended_of 6 put-8bpc-kinds.ps put-8bpc-kinds.r) κs) → put-8bpc-reads.Learnt κs v z e
    → let (luma_w, (luma_h, (ss_hor, (ss_ver, (plane_no, (plane, (plane_stride, (kind, own)))))))) = v in
    let (x, (y, (w, (h, (mx, (my, (filter_type, (a, (b, (c, (d, (subpel, (ext, (warp, (scratch, (dst, (stride, none))))))))))))))))) = own in
    let last = e.1.1.1.1.1.1.1.1.1.1.1.1.1.1.1.1.1.1.1.1.1.1 in
    put8 luma_w luma_h ss_hor ss_ver plane_no plane.now plane_stride kind mx my filter_type a b c d subpel.now ext.now warp.now
    x y w h scratch.now dst.now stride z last.0.now last.1.0.now
told_put_8bpc κs v z e told = told

-- hv_order_prep_8bpc
pub told_prep_8bpc : (κs : Lfts 6) (v : Dens κs prep-8bpc-kinds.ps) (z : (res_t prep-8bpc-kinds.r κs).Denot)
    (e : AtExit (ended_of 6 prep-8bpc-kinds.ps prep-8bpc-kinds.r) κs) → prep-8bpc-reads.Learnt κs v z e
    → let (luma_w, (luma_h, (ss_hor, (ss_ver, (plane_no, (plane, (plane_stride, (kind, own)))))))) = v in
    let (x, (y, (w, (h, (mx, (my, (filter_type, (a, (b, (c, (d, (subpel, (ext, (warp, (scratch, (tmp, (stride, none))))))))))))))))) = own in
    let last = e.1.1.1.1.1.1.1.1.1.1.1.1.1.1.1.1.1.1.1.1.1.1 in
    prep8 luma_w luma_h ss_hor ss_ver plane_no plane.now plane_stride kind mx my filter_type a b c d subpel.now ext.now warp.now
    x y w h scratch.now tmp.now stride z last.0.now last.1.0.now
told_prep_8bpc κs v z e told = told
