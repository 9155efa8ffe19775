-- The rows passed have taken in row k, the others are as they were.
use Rattle.std.proofs.Common.{◌++◌, drop}
use Rattle.check_graph.proofs.Passes.{Passing}
use Rattle.check_graph.proofs.pass.Given as goal

abbrev pub invariant-loop-row : goal.invariant-loop-row
invariant-loop-row l = Passing l.fn.rows l.k l.n (l.row-items ++ drop l.n l.fn.rows) l.row-index
