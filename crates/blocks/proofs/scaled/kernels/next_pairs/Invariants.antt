use Rattle.blocks.proofs.Usual.{◌≡◌, length}
use Rattle.blocks.specs.inner.Scaled.{LastTwo, pair_line_of}
use Rattle.blocks.proofs.scaled.kernels.next_pairs.Given as goal

abbrev pub invariant-loop-k : goal.invariant-loop-k
invariant-loop-k g l = (length l.rows ≡ 128) × LastTwo l.w (pair_line_of (g.P.Pixel.values l.src) l.p) l.k l.rows
