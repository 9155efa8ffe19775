-- What is left to count is what there was (`Counting`).
use Rattle.source_walk.proofs.Places.{Counting}
use Rattle.source_walk.proofs.needed_from.Given as goal

abbrev pub invariant-loop-b : goal.invariant-loop-b
invariant-loop-b l = Counting l.b-items l.b-index l.scanner.tag l.scanner.left l.n
