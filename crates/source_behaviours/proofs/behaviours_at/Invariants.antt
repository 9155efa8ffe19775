-- The loop keeps the behaviours so far, with their names and first cells; each takes bytes of the text, so it ends.
use Rattle.lib_base.proofs.Prelude.{◌-◌, length, take}
use Rattle.source_names.specs.Known.{meaning_by}
use Rattle.source_behaviours.proofs.Loop.{Turn}
use Rattle.source_behaviours.proofs.behaviours_at.Given as goal

abbrev pub invariant-loop-word : goal.invariant-loop-word
invariant-loop-word l =
    Turn l.text (meaning_by l.text l.places l.begun.sorted l.meanings) (take l.begun.known l.begun.events) l.begun.at l.begun.end l.fn.out l.fn.names
    l.begun.taken l.names l.starts l.out l.all.next l.all.count l.i l.all.end l.all.stray

abbrev pub decreases-loop-word : goal.decreases-loop-word
decreases-loop-word l = length l.text - l.all.next
