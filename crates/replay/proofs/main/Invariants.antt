use Rattle.std.proofs.Common.{◌<◌}
use Rattle.replay.proofs.main.Given as goal

abbrev pub invariant-loop : goal.invariant-loop
invariant-loop l = l.sum < 134217689
