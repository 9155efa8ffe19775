-- The names and places passed are found.
use Rattle.source_index.specs.Index.{AllFound}
use Rattle.source_index.proofs.all_found.Given as goal

abbrev pub invariant-loop-j : goal.invariant-loop-j
invariant-loop-j l = AllFound l.text l.names l.places l.j
