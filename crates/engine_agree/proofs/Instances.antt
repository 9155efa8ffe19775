-- Instances of the hypotheses that are no trivial ones, each the claim applied, so that one whose hypothesis was
-- narrowed does not fit. On changes of sheets: `agree` answers 0 for the new sheet, and with it the sheet of the change
-- agrees too. On `agree`'s answer: the final (its events 0 and 1 share b0), two lights that share nothing, and a sheet
-- with a circle.
use Rattle.lib_base.proofs.Prelude.{ℕ, ◌<◌, ◌≡◌, refl, ◌∙◌, List, [], ◌∷◌, arith}
use Rattle.lib_base.specs.Basics.{All}
use Rattle.spec_language.specs.Dependence.{Independent}
use Rattle.spec_model.specs.Model.{step}
use Rattle.refine_lists.specs.Lists.{calling, mending}
use Rattle.back_compile.specs.Number.{number_on}
use Rattle.ask_agree.specs.Answer.{packed_difference}
use Rattle.ask_agree.specs.Agree.{agree_on}
use Rattle.ask_agree.specs.Claims.{DifferenceNamed, AgreeAnswers}
use Rattle.engine_agree.specs.Agreement.{AgreesToo}
use Rattle.engine_agree.specs.Final.{final, final_bytes, final_program}
use Rattle.engine_agree.proofs.Computed.{final_taken, bytes}
use Rattle.engine_agree.proofs.Lights.{lights, lights_bytes, lights_program, lights_taken, lights_independent, lights_bytes_law}

a_step_and_a_change : (s ps t : List ℕ) → agree_on s ps ≡ 0 → All AgreesToo (calling step ∷ mending s ps t ∷ [])
a_step_and_a_change s ps t h = (tt, (h, tt))

module _ (a : AgreeAnswers) where
  -- 65,565 names the hit, the time-up and b0
  of_final : agree_on final_bytes [] ≡ 65565 → DifferenceNamed final_program 65565
  of_final h = rw h at (((a final_bytes [] bytes tt).0 final refl final_taken).named (λ z. omega arith))

  named_in_final : agree_on final_bytes [] ≡ 65565 → (d : DifferenceNamed final_program 65565) → (d.first ≡ 0) × (d.second ≡ 1) × (d.behaviour ≡ 0)
  unfolding packed_difference
  named_in_final h d = (omega (arith, d.ordered, d.declared), omega (arith, d.ordered, d.declared), omega (arith, d.ordered, d.declared, d.is))

  of_lights : agree_on lights_bytes [] ≡ 0
  of_lights = ((a lights_bytes [] lights_bytes_law tt).0 lights refl lights_taken).zero_if lights_independent

  independent_lights : Independent lights_program 0 1
  independent_lights = ((a lights_bytes [] lights_bytes_law tt).0 lights refl lights_taken).only_if of_lights 0 1 (omega arith) (omega arith) (λ h. omega arith)

  of_a_circle : (s ps : List ℕ) → All (λ b. b < 256) s → All (λ b. b < 256) ps → number_on s ps ≡ 12 → agree_on s ps ≡ 12
  of_a_circle s ps b q h = (a s ps b q).1 (λ z. omega arith) ∙ h
