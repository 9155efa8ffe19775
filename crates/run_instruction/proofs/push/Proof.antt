-- Each return is one branch of the definition, by `pushes`.
use Rattle.lib_base.proofs.Prelude.{rules, arith}
use Rattle.run_instruction.proofs.Arms.{pushes, full}
use Rattle.run_instruction.proofs.push.Statement.{statement}
use Rattle.run_instruction.proofs.push.Tie as tie

pub push_spec : {M : Type 1} → statement M
push_spec =
    tie.close (tie.spec (search rules) (search rules) (search rules) (search rules)
    (λ c. pushes _ _ _ (omega arith) c.before.before.put_word.ensures)
    (λ c. full _ _ _ (omega arith)))
