-- Each return is one branch of the definition, by the laws of Rule.antt. What waits in a sound round is known.
use Rattle.lib_base.proofs.Prelude.{rules, arith}
use Rattle.run_step.proofs.Rule.{none_runs, one_runs}
use Rattle.run_step.proofs.Steps.{waiting_known_law}
use Rattle.run_step.proofs.is_outranked.Statement.{statement}
use Rattle.run_step.proofs.is_outranked.Tie as tie

is_any_above_requires : tie.Need-is_any_above-requires
is_any_above_requires c κs =
    let s = c.before.before.before.before.before.before.before.requires in
    let n = c.get_word-waiting.ensures in
    (s.whole, s.long, omega (arith, n, s.few_waiting), waiting_known_law _ _ s n)

returns_2 : tie.Need-returns
returns_2 c =
    one_runs _ _ c.before.before.before.before.before.get_word.ensures c.before.before.before.before.if-get_word-eq0.false c.before.before.before.event_at-event.ensures c.before.before.event_word-priority.ensures
    c.before.get_word-waiting.ensures c.is_any_above.ensures

pub is_outranked_spec : {M : Type 1} → statement M
is_outranked_spec =
    tie.close
    (tie.spec (search rules)
    (λ c. none_runs _ _ c.before.get_word.ensures c.if-get_word-eq0.true)
    (search rules) (search rules) (search rules) (search rules) is_any_above_requires returns_2)
