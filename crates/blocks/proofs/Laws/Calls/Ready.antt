-- Tests that are met give what the rows rely on. Assumes nothing.
use Rattle.rows.proofs.Usual.{true, ◌≡◌, ℕ}
use Rattle.blocks.specs.Refuse.{size_ok, stride_ok, holds}
use Rattle.blocks.specs.inner.Ready.{Block, Rows}
use Rattle.blocks.proofs.Laws.Calls.Refuse.{size_met, stride_met, holds_met}

pub block_met : (w h : ℕ) → size_ok 64 w ≡ true → size_ok 64 h ≡ true → Block w h
block_met w h a b = let p = size_met 64 w a in let q = size_met 64 h b in record { w1 = p.0; w64 = p.1; h1 = q.0; h64 = q.1 }

pub rows_met : (l s w h : ℕ) → stride_ok w s ≡ true → holds l s w h ≡ true → Rows l s w h
rows_met l s w h a b = let p = stride_met w s a in record { wide = p.0; most = p.1; fits = holds_met l s w h b }

-- ---- the sizes first, then the rest
