-- Of those passed, the set has those that lead on.
use Rattle.check_graph.specs.Sets.{bytes_of}
use Rattle.check_distance.proofs.LayerLaws.{Led}
use Rattle.check_distance.proofs.leading_to.Given as goal

abbrev pub invariant-loop-j : goal.invariant-loop-j
invariant-loop-j l = Led (bytes_of l.rows) l.n l.set l.found l.j
