-- `best` is the best of the first i, with its priority and number.
use Rattle.run_queue.proofs.Better.{Turn}
use Rattle.run_queue.proofs.best_of.Given as goal

abbrev pub invariant-loop-i : goal.invariant-loop-i
invariant-loop-i l = Turn l.table l.round l.best l.best_priority l.best_number l.i
