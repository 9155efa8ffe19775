-- The rows are those of the matrix after the passes made.
use Rattle.check_graph.proofs.Passes.{Closing}
use Rattle.check_graph.proofs.close_all.Given as goal

abbrev pub invariant-loop-k : goal.invariant-loop-k
invariant-loop-k l = Closing l.initial.rows l.n l.rows l.k
