-- What is left of the behaviours gives the whole (`BehaviourTurn`).
use Rattle.lib_base.proofs.Prelude.{◌-◌, length}
use Rattle.front_sheet.proofs.Laws.{BehaviourTurn}
use Rattle.front_sheet.proofs.read_behaviours.Given as goal

abbrev pub invariant-loop-at : goal.invariant-loop-at
invariant-loop-at l = BehaviourTurn l.s l.from l.events l.fn.draft l.draft l.at l.i l.n

abbrev pub decreases-loop-at : goal.decreases-loop-at
decreases-loop-at l = length l.s - l.at
