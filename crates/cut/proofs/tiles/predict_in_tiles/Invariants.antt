use Prim.Native.Nat.{◌-◌}
use lib.IntN.{pos}
use Rattle.blocks.proofs.Laws.Cut.CFunctions as functions
use Rattle.cut.proofs.Run.{Upto, Tiled}
use Rattle.cut.proofs.tiles.predict_in_tiles.Given as goal

-- in a row of tiles, the columns before `left` are predicted
abbrev pub invariant-loop-left : goal.invariant-loop-left
invariant-loop-left l =
    record {
      cut : Upto l.w l.left;
      tiled : Tiled
          (functions.put16 l.depth l.luma_w l.luma_h l.ss_hor l.ss_ver l.plane_no l.plane l.plane_stride l.kind l.mx l.my l.filter_type
          (pos 0) (pos 0) (pos 0) (pos 0) l.subpel l.ext l.warp)
          l.x l.y l.dst_stride l.w l.h
          (record { x = 0; y = l.top; w = l.left; h = l.rows }) l.initial.dst l.dst;
    }

abbrev pub decreases-loop-left : goal.decreases-loop-left
decreases-loop-left l = l.w - l.left

-- between rows of tiles, the rows above `top` are
abbrev pub invariant-loop-top : goal.invariant-loop-top
invariant-loop-top l =
    record {
      cut : Upto l.h l.top;
      tiled : Tiled
          (functions.put16 l.depth l.luma_w l.luma_h l.ss_hor l.ss_ver l.plane_no l.plane l.plane_stride l.kind l.mx l.my l.filter_type
          (pos 0) (pos 0) (pos 0) (pos 0) l.subpel l.ext l.warp)
          l.x l.y l.dst_stride l.w l.h
          (record { x = 0; y = 0; w = l.w; h = l.top }) l.initial.dst l.dst;
    }

abbrev pub decreases-loop-top : goal.decreases-loop-top
decreases-loop-top l = l.h - l.top
