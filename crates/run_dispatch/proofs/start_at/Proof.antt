-- The reads and the writes are the definition's, by their contracts.
use Rattle.run_dispatch.specs.Dispatch.{start_at}
use borrow.Author.Rules.{rules}
use Rattle.run_dispatch.proofs.start_at.Statement.{statement}
use Rattle.run_dispatch.proofs.start_at.Tie as tie

returns : tie.Need-returns
unfolding start_at
returns c =
    cc (
      c.get_word-number.ensures,
      c.get_word-word.ensures,
      c.get_word-last_number.ensures,
      c.get_word-last_word.ensures,
      c.put_slot.ensures,
      c.put_word.ensures,
      c.set_running.ensures,
      c.said_of.ensures,
    )

pub start_at_spec : {M : Type 1} → statement M
unfolding start_at
start_at_spec =
    tie.close
    (tie.spec (search rules) (search rules) (search rules) (search rules) (search rules) (search rules)
    (search rules) (search rules) (search rules) (search rules) (search rules) (search rules) (search rules)
    (search rules) (search rules) (search rules) (search rules) (search rules) returns)
