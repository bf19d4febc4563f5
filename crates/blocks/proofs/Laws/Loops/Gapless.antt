-- Buffers of w x h places "without gaps". Assumes nothing.
use Rattle.blocks.proofs.Usual.{true, ◌≡◌, ℕ, ◌≤◌, ◌*◌, ◌-◌, suc, mul_comm, arith, Rows, Block, holds_met}
use native.Mathlib.Nat.{suc-mul, le_refl}
use Rattle.blocks.specs.Refuse.{holds_all}

pub gapless_met : (l w h : ℕ) → Block w h → holds_all l w h ≡ true → Rows l w w h
gapless_met l w h b e = record { wide = le_refl w; most = omega (arith, b); fits = holds_met l w w h e }

-- they hold all w x h places
pub gapless_all : {l w h : ℕ} → Rows l w w h → 1 ≤ h → w * h ≤ l
gapless_all {l} {w} {h} r p = let e : suc (h - 1) ≡ h = omega arith in omega (arith, r, rw e at (suc-mul (h - 1) w), mul_comm w h)
