use Rattle.lib_base.proofs.Prelude.{refl, ◌∙◌, arith}
use Rattle.ask_circle.proofs.WitnessLaws.{not_circular, turns_draft, turns_wide, found_listed}
use Rattle.ask_circle.proofs.circle_at.Goals as goal

pub list_circle-requires-clause-inside : goal.list_circle-requires-clause-inside
list_circle-requires-clause-inside c = turns_draft _ _ (rw c.in-Err-Circular.field-0-is at c.in-Err-Circular.ensures).finding

pub list_circle-requires-clause-wide : goal.list_circle-requires-clause-wide
list_circle-requires-clause-wide c = turns_wide _ _ (rw c.in-Err-Circular.field-0-is at c.in-Err-Circular.ensures).finding

pub returns-in-Ok : goal.returns-in-Ok
returns-in-Ok c = not_circular _ _ _ _ _ c.in-Ok.ensures (λ z. omega arith) refl

pub returns-in-Err-Circular : goal.returns-in-Err-Circular
returns-in-Err-Circular c = found_listed _ _ (rw c.in-Err-Circular.field-0-is at c.in-Err-Circular.ensures).finding c.list_circle.ensures

pub returns-in-Err-Refused : goal.returns-in-Err-Refused
returns-in-Err-Refused c =
    let j = rw c.in-Err-Refused.field-0-is at c.in-Err-Refused.ensures in
    not_circular _ _ _ _ _ j j.finding.other (c.from.ensures ∙ c.number.ensures)
