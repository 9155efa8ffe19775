-- The word read is the value pushedOn.

use borrow.Author.Rules.{rules}
use Rattle.run_instruction.proofs.push_word.Statement.{statement}
use Rattle.run_instruction.proofs.push_word.Tie as tie

pub push_word_spec : {M : Type 1} → statement M
push_word_spec =
    tie.close (tie.spec (search rules) (search rules) (search rules)
    (λ c. rw (← c.before.before.before.before.get_word-value.ensures) c.before.before.push.ensures))
