-- A call that is refused: its answer has a number. Assumes nothing.
use Rattle.blocks.proofs.Usual.{◌≡◌, ◌∙◌, sym, ℕ}
use Rattle.blocks.specs.declared.refuse.Refusal.{Refusal}
use Rattle.blocks.specs.Refuse.{number_of, reason_of}
use Rattle.blocks.proofs.Laws.Calls.Refuse.{not_zero}

-- the number of a refusal isn't 0
pub refuses : {n : ℕ} (why : Refusal) → n ≡ number_of (reason_of why) → n ≡ 0 → ⊥
refuses why e z = not_zero (reason_of why) (sym e ∙ z)
