-- Each return is one branch of the definition, by the laws of Rule.antt.
use Rattle.lib_base.proofs.Prelude.{not-true, not-false, rules}
use Rattle.run_step.proofs.Rule.{stays, tests}
use Rattle.run_step.proofs.is_preempted.Statement.{statement}
use Rattle.run_step.proofs.is_preempted.Tie as tie

returns_2 : tie.Need-returns
returns_2 c =
    tests _ _ c.if-not-outranked.false c.event_at-event.ensures c.event_word-length.ensures c.event_word-members.ensures
    c.get_word.ensures c.is_masked.ensures

pub is_preempted_spec : {M : Type 1} → statement M
is_preempted_spec =
    tie.close
    (tie.spec
    (λ c. stays _ _ c.if-not-outranked.true)
    (search rules) (search rules) (search rules) (search rules) (search rules) returns_2)
