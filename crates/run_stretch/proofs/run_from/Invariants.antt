-- What is left of the stretch, after those that ran, is equal to the whole.
use Rattle.run_stretch.proofs.Late.{Turn}
use Rattle.run_stretch.proofs.run_from.Given as goal

abbrev pub invariant-loop-done : goal.invariant-loop-done
invariant-loop-done l = Turn l.table l.fn.round l.k l.n l.depth l.round l.done l.deep
