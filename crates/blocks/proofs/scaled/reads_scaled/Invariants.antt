use Rattle.blocks.proofs.Usual.{◌≡◌}
use Rattle.rows.specs.Warp.{every}
use Rattle.rows.specs.Scaled.{position}
use Rattle.blocks.specs.Scaled.{column_read}
use Rattle.blocks.proofs.scaled.reads_scaled.Given as goal

abbrev pub invariant-loop-x : goal.invariant-loop-x
invariant-loop-x l = l.ok ≡ every l.x (λ k. column_read l.taps l.l.sl l.l.src_off l.l.src_stride l.rows (position l.start l.step k))
