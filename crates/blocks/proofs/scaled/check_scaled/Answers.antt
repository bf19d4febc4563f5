use Rattle.blocks.proofs.Usual.{◌≡◌, rules, lowest}
use Rattle.blocks.specs.Refuse.{need}
use Rattle.blocks.proofs.Laws.Scaled.Ready.{number_tests, numbers_met}
use Rattle.blocks.proofs.scaled.check_scaled.Goals as goal

pub reads_scaled-requires : goal.reads_scaled-requires
unfolding need
reads_scaled-requires c =
    let a = c.args in let l = a.l in let m = a.m in
    let e : lowest (number_tests a.deep a.typed a.tabled l.dst_stride l.src_stride a.w a.h m.mx m.my m.dx m.dy) ≡ 0 = search rules in
    let n = numbers_met a.deep a.typed a.tabled l.dst_stride l.src_stride a.w a.h m.mx m.my m.dx m.dy e in
    (n.most, n.block.w1, n.block.w64, n.block.h1, n.block.h64, n.across.0, n.down.0, n.across.1, n.down.1)
