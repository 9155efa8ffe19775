-- Each return is one branch of the definition, by `applies_three`.
use Rattle.lib_base.proofs.Prelude.{rules, arith}
use Rattle.run_instruction.proofs.Arms.{applies_three, too_few_three}
use Rattle.run_instruction.proofs.apply_three.Statement.{statement}
use Rattle.run_instruction.proofs.apply_three.Tie as tie

returns_2 : tie.Need-returns
returns_2 c =
    let called = c in
    let at = called.call_on-value.ensures in
    applies_three _ _ _ (omega arith) called.get_word-x.ensures
    called.get_word-y.ensures
    called.get_word-z.ensures
    at.0 at.1 c.put_word.ensures

pub apply_three_spec : {M : Type 1} → statement M
apply_three_spec =
    tie.close
    (tie.spec (λ c. too_few_three _ _ _ (omega arith)) (search rules) (search rules) (search rules) (search rules)
    (search rules) (search rules) (search rules) (search rules) (search rules) (search rules) (search rules) returns_2)
