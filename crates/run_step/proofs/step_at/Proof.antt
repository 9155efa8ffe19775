-- A foreign table or round is refused; of one that is ours all is known that the step asks for.
use Rattle.lib_base.proofs.Prelude.{◌∙◌, sym, not-true, not-false, rules}
use Rattle.run_step.proofs.Fits.{ours_sound}
use Rattle.run_step.proofs.Rule.{foreign}
use Rattle.run_step.proofs.step_at.Statement.{statement}
use Rattle.run_step.proofs.step_at.Tie as tie

is_outranked_requires : tie.Need-is_outranked-outranked-requires
is_outranked_requires c κs = ours_sound _ _ (sym c.is_ours.ensures.0 ∙ c.if-not-is_ours.false)

step_on_requires : tie.Need-step_on-requires
step_on_requires c κs = (
  ours_sound _ _ (sym c.is_ours.ensures.0 ∙ c.if-not-is_ours.false),
  sym c.is_outranked-outranked.ensures,
)

pub step_at_spec : {M : Type 1} → statement M
step_at_spec =
    tie.close
    (tie.spec (search rules) (search rules)
    (λ c. foreign _ _ c.is_ours.ensures.0 c.if-not-is_ours.true)
    is_outranked_requires step_on_requires (search rules)
    (λ c. c.step_on.ensures.0))
