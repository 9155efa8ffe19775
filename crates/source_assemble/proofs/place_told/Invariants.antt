-- Line and column so far, and what is left of the bytes before the place, tell of the place.
use Rattle.source_assemble.proofs.Lines.{Walked}
use Rattle.source_assemble.proofs.place_told.Given as goal

abbrev pub invariant-loop-b : goal.invariant-loop-b
invariant-loop-b l = Walked l.text l.place l.line l.column l.b-index
