-- What is left of the handlers gives the whole (`HandlerTurn`).
use Rattle.lib_base.proofs.Prelude.{◌-◌, length}
use Rattle.front_behaviours.proofs.Laws.{HandlerTurn}
use Rattle.front_behaviours.proofs.read_handlers.Given as goal

abbrev pub invariant-loop-at : goal.invariant-loop-at
invariant-loop-at l = HandlerTurn l.v l.events l.i l.fn.draft l.n l.draft l.at l.m

abbrev pub decreases-loop-at : goal.decreases-loop-at
decreases-loop-at l = length l.v - l.at
