-- What is left of the steps, run where the loop stands, equals the whole.
use Rattle.run_preview.proofs.ToIdle.{Turn}
use Rattle.run_preview.proofs.run_to_idle.Given as goal

abbrev pub invariant-loop-left : goal.invariant-loop-left
invariant-loop-left l = Turn l.table l.fn.round l.most l.round l.left

abbrev pub decreases-loop-left : goal.decreases-loop-left
decreases-loop-left l = l.left
