use Rattle.std.proofs.Common.{◌<◌}
use Rattle.replay.proofs.mixed.Given as goal

abbrev pub invariant-loop-i : goal.invariant-loop-i
invariant-loop-i l = l.m < 134217689
