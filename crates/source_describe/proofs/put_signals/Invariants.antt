-- What is left of the events to write is what there was (`Declaring`).
use Rattle.lib_base.proofs.Prelude.{◌≡◌, length}
use Rattle.std.specs.Iterator.Adapters.{zip_first, zip_second}
use Rattle.sheet_walk.proofs.Places.{Going}
use Rattle.source_describe.proofs.Turns.{Declaring}
use Rattle.source_describe.proofs.put_signals.Given as goal

abbrev pub invariant-loop-i : goal.invariant-loop-i
invariant-loop-i l =
    let numbers = zip_first l.i-iterator in
    let walk = zip_second l.i-iterator in
    (numbers.start ≡ length l.yielded) × (numbers.end ≡ 32) × Going l.s walk.sheet.now walk.at numbers.start
    × Declaring l.s l.fn.pen l.pen walk.at numbers.start
