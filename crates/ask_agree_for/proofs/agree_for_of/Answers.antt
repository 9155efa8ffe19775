use Rattle.lib_base.proofs.Prelude.{◌∙◌}
use Rattle.ask_agree_for.proofs.EncounterLaws.{no_behaviour_law, behaviour_is}
use Rattle.ask_agree_for.proofs.agree_for_of.Goals as goal

pub returns-then-n-behaviour : goal.returns-then-n-behaviour
returns-then-n-behaviour c = no_behaviour_law c.args.d.now _ _ _ c.if-n-behaviour.true

pub returns : goal.returns
returns c = behaviour_is c.args.d.now _ _ _ _ c.if-n-behaviour.false (λ p f. c.clash_number.ensures ∙ c.meet_in.ensures p f)
