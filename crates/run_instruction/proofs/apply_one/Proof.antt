-- Each return is one branch of the definition, by `applies_one`.
use Rattle.lib_base.proofs.Prelude.{rules, arith}
use Rattle.run_instruction.proofs.Arms.{applies_one, too_few_one}
use Rattle.run_instruction.proofs.apply_one.Statement.{statement}
use Rattle.run_instruction.proofs.apply_one.Tie as tie

returns_2 : tie.Need-returns
returns_2 c =
    let called = c.before.before.before.before.before.before.call_on-value.ensures in
    applies_one _ _ _ (omega arith) c.before.before.before.before.before.before.before.before.get_word-x.ensures called.0 called.1 c.before.before.put_word.ensures

pub apply_one_spec : {M : Type 1} → statement M
apply_one_spec =
    tie.close
    (tie.spec (λ c. too_few_one _ _ _ (omega arith)) (search rules) (search rules) (search rules) (search rules)
    (search rules) (search rules) returns_2)
