-- Each step in the row is the call that is recorded, and leaves a sound round.
use Rattle.engine.proofs.Laws.{Stepping}
use Rattle.engine.proofs.steps.steps_from.Given as goal

abbrev pub invariant-loop-at : goal.invariant-loop-at
invariant-loop-at l = Stepping l.table l.calls l.n l.i l.fn.round l.fn.answers l.outranked l.at l.round l.answers
