-- The reads and the writes are the definition's, by their contracts.
use Rattle.run_dispatch.specs.Dispatch.{preempt_at}
use borrow.Author.Rules.{rules}
use Rattle.run_dispatch.proofs.preempt_at.Statement.{statement}
use Rattle.run_dispatch.proofs.preempt_at.Tie as tie

returns : tie.Need-returns
unfolding preempt_at
returns c =
    cc (
      c.get_word-number.ensures,
      c.get_word-word.ensures,
      c.get_word-old_number.ensures,
      c.get_word-old_word.ensures,
      c.put_slot.ensures,
      c.set_running.ensures,
      c.said_of.ensures,
    )

pub preempt_at_spec : {M : Type 1} → statement M
unfolding preempt_at
preempt_at_spec =
    tie.close
    (tie.spec (search rules) (search rules) (search rules) (search rules) (search rules) (search rules)
    (search rules) (search rules) (search rules) (search rules) (search rules) (search rules) returns)
