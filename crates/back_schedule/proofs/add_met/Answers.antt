use Rattle.lib_base.proofs.Prelude.{◌∙◌, sym}
use Rattle.back_schedule.proofs.OrderingLaws.{met_none, met_one}
use Rattle.back_schedule.proofs.add_met.Goals as goal

pub returns-then-is_met : goal.returns-then-is_met
returns-then-is_met c j = c.insert.ensures j ∙ met_one _ _ _ j (sym c.is_met.ensures ∙ c.if-is_met.true)

pub returns : goal.returns
returns c j = met_none _ _ _ j (sym c.is_met.ensures ∙ c.if-is_met.false)
