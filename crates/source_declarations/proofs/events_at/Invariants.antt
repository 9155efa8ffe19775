-- The loop keeps the events so far, the places of their names and their bytes; each takes bytes of the text, more than
-- a sixteenth of those that it gives.
use Rattle.lib_base.proofs.Prelude.{◌-◌, length}
use Rattle.source_declarations.proofs.Events.{EventTurn}
use Rattle.source_declarations.proofs.events_at.Given as goal

abbrev pub invariant-loop-word : goal.invariant-loop-word
invariant-loop-word l = EventTurn l.text l.at l.n l.fn.out l.events l.out l.here l.count l.end

abbrev pub decreases-loop-word : goal.decreases-loop-word
decreases-loop-word l = length l.text - l.here
