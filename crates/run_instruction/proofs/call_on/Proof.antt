-- By the size of the function's answer: below 2^32 it is the word and has no mark, else the word is what is left.
use Rattle.lib_base.proofs.Prelude.{◌∙◌, rules}
use Rattle.run_instruction.proofs.StackLaws.{unmarked, marked, rest_word}
use Rattle.run_instruction.proofs.call_on.Statement.{statement}
use Rattle.run_instruction.proofs.call_on.Tie as tie

pub call_on_spec : {M : Type 1} → statement M
call_on_spec =
    tie.close
    (tie.spec
    (λ c κs. search rules)
    (λ c. search rules)
    (λ c. unmarked _ _ _ _ _ _ c.before.apply-answer.ensures c.if-answer-lt-OVER.true)
    (λ c κs. search rules)
    (λ c. let k = rest_word _ _ _ _ _ c.before.before.before.before.before.apply-answer.ensures c.before.before.before.before.if-answer-lt-OVER.false in search rules)
    (λ c. search rules)
    (λ c.
    let m = marked _ _ _ _ _ _ c.before.before.before.before.before.apply-answer.ensures c.before.before.before.before.if-answer-lt-OVER.false in
    (m.0, c.before.before.put_word.ensures ∙ m.1)))
