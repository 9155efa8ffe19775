-- What is left of the behaviours to write is what there was (`Describing`).
use Rattle.lib_base.proofs.Prelude.{◌-◌, length}
use Rattle.sheet_walk.proofs.Places.{Going}
use Rattle.source_describe.proofs.Turns.{Describing}
use Rattle.source_describe.proofs.put_entries.Given as goal

abbrev pub invariant-loop-at : goal.invariant-loop-at
invariant-loop-at l =
    Going l.s l.at-iterator.sheet.now l.at-iterator.at (length l.yielded)
    × Describing l.s l.first l.fn.pen l.pen l.at-iterator.at l.j (length l.s - length l.yielded)
