-- Each return is one branch of the definition, by `pops`.
use Rattle.lib_base.proofs.Prelude.{rules, arith}
use Rattle.run_instruction.proofs.Arms.{pops, empty}
use Rattle.run_instruction.proofs.pop.Statement.{statement}
use Rattle.run_instruction.proofs.pop.Tie as tie

pub pop_spec : {M : Type 1} → statement M
pop_spec =
    tie.close (tie.spec (search rules) (search rules) (search rules) (search rules) (search rules)
    (λ c. pops _ _ _ _ (omega arith) c.before.before.before.before.get_word-value.ensures c.before.before.put_word.ensures)
    (λ c. empty _ _ _ (omega arith)))
