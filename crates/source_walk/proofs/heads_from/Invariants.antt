-- The fields before the place are noted, and behind it every number is its own (`Heading`).
use Rattle.lib_base.proofs.Prelude.{◌-◌, length}
use Rattle.sheet_walk.proofs.Places.{Going}
use Rattle.source_walk.proofs.Heads.{Heading}
use Rattle.source_walk.proofs.heads_from.Given as goal

abbrev pub invariant-loop-at : goal.invariant-loop-at
invariant-loop-at l =
    Going l.s l.at-iterator.sheet.now l.at-iterator.at (length l.yielded)
    × Heading l.s l.first l.heads l.at-iterator.at l.j (length l.s - length l.yielded)
