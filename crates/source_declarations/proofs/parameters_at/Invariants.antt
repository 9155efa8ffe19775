-- The loop keeps the parameters so far and the places of their names; each takes bytes of the text, so it ends.
use Rattle.lib_base.proofs.Prelude.{◌-◌, length}
use Rattle.source_declarations.proofs.Parameters.{ParameterTurn}
use Rattle.source_declarations.proofs.parameters_at.Given as goal

abbrev pub invariant-loop-word : goal.invariant-loop-word
invariant-loop-word l = ParameterTurn l.text l.at l.names l.here l.count

abbrev pub decreases-loop-word : goal.decreases-loop-word
decreases-loop-word l = length l.text - l.here
