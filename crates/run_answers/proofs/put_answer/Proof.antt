-- The two words are those of the definition.
use borrow.Author.Rules.{rules}
use Rattle.run_answers.specs.Answers.{put_answer}
use Rattle.run_answers.proofs.put_answer.Statement.{statement}
use Rattle.run_answers.proofs.put_answer.Tie as tie

pub put_answer_spec : {M : Type 1} → statement M
unfolding put_answer
put_answer_spec =
    tie.close
    (tie.spec
    (λ c. search rules)
    (λ c. search rules)
    (λ c κs. search rules)
    (λ c. search rules)
    (λ c. search rules)
    (λ c. search rules)
    (λ c κs. search rules)
    (λ c. search rules)
    (λ c. cc (c.before.before.before.before.before.before.put_word.ensures, c.before.before.put_word-2.ensures)))
