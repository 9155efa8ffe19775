-- The two words of the instruction are read as the definition reads them.
use Rattle.run_stretch.specs.Stretch.{executed_at}
use borrow.Author.Rules.{rules}
use Rattle.run_stretch.proofs.execute_at.Statement.{statement}
use Rattle.run_stretch.proofs.execute_at.Tie as tie

pub execute_at_spec : {M : Type 1} → statement M
unfolding executed_at
execute_at_spec =
    tie.close
    (tie.spec (search rules) (search rules) (search rules) (search rules) (search rules) (search rules) (search rules) (search rules)
    (λ c. rw (← c.before.before.before.before.before.get_word-code.ensures, ← c.before.before.before.before.get_word-constant.ensures) c.before.before.execute.ensures))
