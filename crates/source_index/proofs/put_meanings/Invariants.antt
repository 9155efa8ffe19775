-- The places passed have the numbers of their names.
use Rattle.source_index.specs.Index.{MeaningsPut}
use Rattle.source_index.proofs.put_meanings.Given as goal

abbrev pub invariant-loop-k : goal.invariant-loop-k
invariant-loop-k l = MeaningsPut l.text l.names l.params l.firsts l.places l.k l.initial.meanings l.meanings
