-- Each return is the first case that fits, by the laws of Steps.antt.
use Rattle.lib_base.proofs.Prelude.{◌∙◌, sym, rules, arith}
use Rattle.run_step.proofs.Steps.{known, table_fine, waiting_known_law, way_waits, preempts, advances, starts, idles}
use Rattle.run_step.proofs.step_on.Statement.{statement}
use Rattle.run_step.proofs.step_on.Tie as tie

best_of_requires : tie.Need-best_of-next-requires
best_of_requires c κs =
    let s = c.requires.0 in
    let n = c.get_word-waiting.ensures in
    let w = way_waits _ _ s _ c.requires.1 (sym c.is_preempted.ensures ∙ c.if-is_preempted.true) in
    (s.whole, s.long, omega (arith, n, w), omega (arith, n, s.few_waiting), waiting_known_law _ _ s n)

returns : tie.Need-returns-then-is_preempted
returns c =
    preempts _ _ _ c.requires.0 c.requires.1 c.is_preempted.ensures c.if-is_preempted.true c.get_word-waiting.ensures
    c.best_of-next.ensures.0 c.preempt_at.ensures

advance_on_requires : tie.Need-advance_on-requires
advance_on_requires c κs =
    let s = c.requires.0 in
    (table_fine _ _ s, s.long, s.shallow, known _ _ s (λ z. c.if-get_word-ne0.true (c.get_word.ensures ∙ z)))

returns_2 : tie.Need-returns-then-get_word-ne0
returns_2 c =
    advances _ _ _ c.requires.0 c.requires.1 c.is_preempted.ensures c.if-is_preempted.false c.get_word.ensures
    c.if-get_word-ne0.true c.advance_on.ensures

best_of_requires_2 : tie.Need-best_of-next-requires-then-waiting-gt0
best_of_requires_2 c κs =
    let s = c.requires.0 in
    let n = c.get_word-waiting.ensures in
    (s.whole, s.long, omega (arith, c.if-waiting-gt0.true), omega (arith, n, s.few_waiting), waiting_known_law _ _ s n)

returns_3 : tie.Need-returns-then-waiting-gt0
returns_3 c =
    starts _ _ _ c.requires.0 c.requires.1 c.get_word.ensures c.if-get_word-ne0.false c.get_word-waiting.ensures
    c.if-waiting-gt0.true c.best_of-next-then-waiting-gt0.ensures.0 c.start_at.ensures

returns_4 : tie.Need-returns
returns_4 c =
    idles _ _ _ c.requires.0 c.requires.1 c.get_word.ensures c.if-get_word-ne0.false c.get_word-waiting.ensures c.if-waiting-gt0.false

pub step_on_spec : {M : Type 1} → statement M
step_on_spec =
    tie.close
    (tie.spec (search rules) (search rules) (λ c κs. search rules) best_of_requires (search rules) (search rules)
    returns (search rules) advance_on_requires (search rules) returns_2 best_of_requires_2 (search rules) (search rules)
    (search rules) returns_3 (search rules) returns_4)
