-- The calls that are left, made where the loop stands, give the whole.
use Rattle.lib_base.proofs.Prelude.{◌-◌}
use Rattle.engine.specs.RowOfSteps.{RowOfSteps}
use Rattle.engine.proofs.replay.Given as goal

abbrev pub invariant-loop-i : goal.invariant-loop-i
invariant-loop-i l = RowOfSteps l.table l.calls l.n 0 l.fn.round l.fn.answers l.i l.round l.answers

abbrev pub decreases-loop-i : goal.decreases-loop-i
decreases-loop-i l = l.n - l.i
