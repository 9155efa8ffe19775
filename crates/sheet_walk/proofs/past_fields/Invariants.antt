-- What is left to pass over is what there was (`Passing`).
use Rattle.lib_base.proofs.Prelude.{◌-◌, length}
use Rattle.sheet_walk.proofs.Places.{Going, Passing}
use Rattle.sheet_walk.proofs.past_fields.Given as goal

abbrev pub invariant-loop-at : goal.invariant-loop-at
invariant-loop-at l =
    Going l.s l.at-iterator.sheet.now l.at-iterator.at (length l.yielded)
    × Passing l.s l.from l.tag l.at-iterator.at (length l.s - length l.yielded)
