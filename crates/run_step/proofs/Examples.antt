-- Worked examples, by computation: a higher rank breaks in, an equal one does not, and none where interrupts are
-- masked.
use Rattle.lib_base.proofs.Prelude.{ℕ, ◌≡◌, refl, true, false, List}
use Rattle.run_dispatch.specs.Dispatch.{preempt_at}
use Rattle.run_advance.specs.Advance.{advance_on}
use Rattle.run_step.specs.Machine.{meet}

-- slot b is the next; ranks of the running one and of the next
pub ranks : (t l : List ℕ) (b : ℕ) → ((meet t l b false 1 2 ≡ preempt_at l b) × (meet t l b false 2 2 ≡ advance_on t l) × (meet t l b false 2 1 ≡ advance_on t l) × (meet t l b true 1 2 ≡ advance_on t l))
unfolding meet
ranks t l b = (refl, refl, refl, refl)
