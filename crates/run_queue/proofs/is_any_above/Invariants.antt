-- The slots from i on have none above, so that those before it decide.
use Rattle.lib_base.proofs.Prelude.{◌≡◌}
use Rattle.run_queue.specs.Queue.{any_above}
use Rattle.run_queue.proofs.is_any_above.Given as goal

abbrev pub invariant-loop-i : goal.invariant-loop-i
invariant-loop-i l = any_above l.table l.round l.p l.n ≡ any_above l.table l.round l.p l.i
