-- The instructions made at once, and one step more: all of them, one that is not made, or one that is.
use Rattle.lib_base.proofs.Prelude.{◌∙◌, sym, rules, arith}
use Rattle.run_burst.proofs.Glue.{all_ran, not_made, one_made}
use Rattle.run_burst.proofs.run_then_step.Statement.{statement}
use Rattle.run_burst.proofs.run_then_step.Tie as tie

returns : tie.Need-returns-then-done-left
returns c =
    all_ran c.requires.1 c.run_most-done.ensures.0 c.run_most-done.ensures.1 c.requires.2 c.if-done-left.true

step_on_requires : tie.Need-step_on-answer-requires
step_on_requires c κs =
    (c.run_most-done.ensures.0.sound, c.run_most-done.ensures.0.rank ∙ c.requires.1)

returns_2 : tie.Need-returns-then-is_unmade
returns_2 c =
    let step = c.step_on-answer.ensures in
    not_made c.requires.1 c.run_most-done.ensures.0 c.run_most-done.ensures.1 c.requires.2 c.if-done-left.false
    step.0 step.1 (sym c.is_unmade.ensures ∙ c.if-is_unmade.true)

returns_3 : tie.Need-returns
returns_3 c =
    let step = c.step_on-answer.ensures in
    one_made c.requires.1 c.run_most-done.ensures.0 c.run_most-done.ensures.1 c.requires.2 c.if-done-left.false
    step.0 step.1 (sym c.is_unmade.ensures ∙ c.if-is_unmade.false)

pub run_then_step_spec : {M : Type 1} → statement M
run_then_step_spec =
    tie.close
    (tie.spec
    (λ c κs. search rules)
    (search rules) returns step_on_requires (search rules)
    (λ c. omega (arith, c.run_most-done.ensures.1))
    (search rules) returns_2
    (λ c. omega (arith, c.run_most-done.ensures.1))
    (λ c. omega (arith, c.run_most-done.ensures.1, c.if-done-left.false))
    (search rules) returns_3)
