use Rattle.blocks.proofs.Usual.{arith, back}
use Rattle.blocks.proofs.Laws.Warp.Corners.{four_all}
use Rattle.blocks.proofs.warp.pass_there.Goals as goal

pub returns : goal.returns
returns c =
    rw (
      c.corner_there.ensures,
      c.corner_there-2.ensures,
      c.corner_there-3.ensures,
      c.corner_there-4.ensures,
      back c.ranges.m,
      back c.ranges.a,
      back c.ranges.b,
    )
    (four_all c.args.n c.args.last c.args.m c.args.a c.args.b (omega (arith, c.requires)))
