-- The levels of up to k steps stand, and the least number of steps is among those left. An empty level ends it: so are
-- all that follow.
use Rattle.check_graph.specs.Sets.{bytes_of}
use Rattle.check_distance.proofs.LayerLaws.{Trying}
use Rattle.check_distance.proofs.steps_back.Given as goal

abbrev pub invariant-loop-k : goal.invariant-loop-k
invariant-loop-k l = Trying (bytes_of l.rows) l.n l.i l.levels l.k
