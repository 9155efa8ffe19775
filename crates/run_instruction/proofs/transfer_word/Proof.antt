-- The read and the write are the definition's, by their contracts.
use Rattle.run_instruction.specs.Instruction.{transfer}
use borrow.Author.Rules.{rules}
use Rattle.run_instruction.proofs.transfer_word.Statement.{statement}
use Rattle.run_instruction.proofs.transfer_word.Tie as tie

pub transfer_word_spec : {M : Type 1} → statement M
unfolding transfer
transfer_word_spec =
    tie.close (tie.spec (search rules) (search rules) (search rules)
    (λ c. rw (c.before.before.put_word.ensures, c.before.before.before.before.get_word-value.ensures)))
