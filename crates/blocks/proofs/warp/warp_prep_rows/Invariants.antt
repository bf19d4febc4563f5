use Rattle.blocks.proofs.Usual.{◌*◌, ◌+◌, pos, at, minus16, low16, Filled}
use Rattle.rows.specs.Warp.{warped}
use Rattle.blocks.proofs.warp.warp_prep_rows.Given as goal

abbrev pub invariant-loop-y : goal.invariant-loop-y
invariant-loop-y l = Filled l.tmp_stride 8 (λ i j. minus16 (low16 (warped l.table l.by.m l.by.a l.by.b 7 j i (λ v. at l.mid (j + i * 15 + v)))) (pos l.bias)) l.initial.tmp 8 l.y l.tmp
