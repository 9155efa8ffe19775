-- After so many turns the behaviours of so many fields are counted (`Counted`).
use Rattle.lib_base.proofs.Prelude.{◌≡◌, ◌+◌, length}
use Rattle.std.specs.Iterator.Adapters.{take_source, take_count}
use Rattle.sheet_walk.proofs.Places.{Going}
use Rattle.link_bytes.proofs.Laws.{Counted}
use Rattle.link_bytes.proofs.count.Given as goal

abbrev pub invariant-loop-at : goal.invariant-loop-at
invariant-loop-at l =
    let walk = take_source l.at-iterator in
    Going l.s walk.sheet.now walk.at (length l.yielded) × (take_count l.at-iterator + length l.yielded ≡ 64)
    × Counted l.s l.i walk.at l.c (length l.yielded)
