-- The six writes are the definition's, by their contracts.
use Rattle.run_dispatch.specs.Dispatch.{run_arrival}
use borrow.Author.Rules.{rules}
use Rattle.run_dispatch.proofs.set_running.Statement.{statement}
use Rattle.run_dispatch.proofs.set_running.Tie as tie

returns : tie.Need-returns
unfolding run_arrival
returns c =
    let at_put_word5 = c.before.before.before.before.before.before in
    let at_put_word3 = at_put_word5.before.before.before.before.before.before.before.before in
    let at_put_word = at_put_word3.before.before.before.before.before.before.before.before in
    cc (
      at_put_word.put_word.ensures,
      at_put_word3.before.before.before.before.put_word-2.ensures,
      at_put_word3.put_word-3.ensures,
      at_put_word5.before.before.before.before.put_word-4.ensures,
      at_put_word5.put_word-5.ensures,
      c.before.before.put_word-6.ensures,
    )

pub set_running_spec : {M : Type 1} → statement M
unfolding run_arrival
set_running_spec =
    tie.close
    (tie.spec (search rules) (search rules) (search rules) (search rules) (search rules) (search rules)
    (search rules) returns)
