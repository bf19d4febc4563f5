use Rattle.blocks.proofs.Usual.{Filled}
use Rattle.blocks.proofs.Laws.Warp.Passes.{first}
use Rattle.blocks.proofs.warp.warp_mid.Given as goal

abbrev pub invariant-loop-x : goal.invariant-loop-x
invariant-loop-x g l =
    Filled 15 15 (first l.bits l.table l.by.m l.by.a l.by.b (g.P.Pixel.values l.src) l.o l.s) l.initial.mid 8 l.x l.mid
