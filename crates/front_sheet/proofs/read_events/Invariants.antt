-- What is left of the events gives the whole (`EventTurn`).
use Rattle.lib_base.proofs.Prelude.{◌-◌, length}
use Rattle.front_sheet.proofs.Laws.{EventTurn}
use Rattle.front_sheet.proofs.read_events.Given as goal

abbrev pub invariant-loop-at : goal.invariant-loop-at
invariant-loop-at l = EventTurn l.s l.fn.draft l.draft l.at l.e

abbrev pub decreases-loop-at : goal.decreases-loop-at
decreases-loop-at l = length l.s - l.at
