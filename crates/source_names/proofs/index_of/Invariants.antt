-- None of the places passed has the name.
use Rattle.source_coding.specs.Places.{name_at}
use Rattle.source_names.proofs.Laws.{IndexSoFar}
use Rattle.source_names.proofs.index_of.Given as goal

abbrev pub invariant-loop-i : goal.invariant-loop-i
invariant-loop-i l = IndexSoFar l.text l.places (name_at l.text l.p) l.i
