-- The loop keeps the handlers so far and the marks of their events; each takes bytes of the text, so it ends.
use Rattle.lib_base.proofs.Prelude.{◌-◌, length}
use Rattle.source_names.specs.Known.{meaning_by}
use Rattle.source_handlers.proofs.Loop.{Turn}
use Rattle.source_handlers.proofs.handlers_at.Given as goal

abbrev pub invariant-loop-on : goal.invariant-loop-on
invariant-loop-on l =
    Turn l.text (meaning_by l.text l.places l.cursor.sorted l.meanings) l.cursor.cells l.events l.cursor.at l.cursor.end l.fn.out
    l.handled l.out l.part.next l.part.end l.part.stray

abbrev pub decreases-loop-on : goal.decreases-loop-on
decreases-loop-on l = length l.text - l.part.next
