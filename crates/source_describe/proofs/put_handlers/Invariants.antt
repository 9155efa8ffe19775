-- What is left of the handlers to write is what there was (`Handling`).
use Rattle.lib_base.proofs.Prelude.{◌-◌, length}
use Rattle.sheet_walk.proofs.Places.{Going}
use Rattle.source_describe.proofs.Turns.{Handling}
use Rattle.source_describe.proofs.put_handlers.Given as goal

abbrev pub invariant-loop-at : goal.invariant-loop-at
invariant-loop-at l =
    Going l.s l.at-iterator.sheet.now l.at-iterator.at (length l.yielded)
    × Handling l.s l.first l.from l.fn.pen l.pen l.at-iterator.at (length l.s - length l.yielded)
